use Rattle.std.proofs.Common.{◌≡◌, ◌++◌, drop, take}
use Rattle.page_plane.proofs.words.copy_eight.Given as goal

abbrev pub invariant-loop-place : goal.invariant-loop-place
invariant-loop-place l = l.to ≡ take l.place l.from ++ drop l.place l.initial.to
