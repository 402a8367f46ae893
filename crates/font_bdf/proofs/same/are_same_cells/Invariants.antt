use Rattle.std.proofs.Common.{◌≡◌, map, take}
use Rattle.sign_font.specs.Sign.{cell_of}
use Rattle.font_bdf.proofs.same.are_same_cells.Given as goal

abbrev pub invariant-loop-place : goal.invariant-loop-place
invariant-loop-place l = map cell_of (take l.place l.cells) ≡ map cell_of (take l.place l.others)
