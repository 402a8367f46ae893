use Rattle.std.proofs.Common.{◌≡◌, ◌∷◌, map, drop}
use Rattle.sign_font.specs.Limits.{is_rising}
use Rattle.sign_font.proofs.limits.are_cells_rising.Given as goal

abbrev pub invariant-loop-cell : goal.invariant-loop-cell
invariant-loop-cell l = is_rising (0 ∷ map (λ cell. cell.number) l.cells) ≡ is_rising (l.last ∷ map (λ cell. cell.number) (drop l.cell-index l.cells))
