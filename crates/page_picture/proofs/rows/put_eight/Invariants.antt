use Rattle.std.proofs.Common.{◌≡◌, ◌++◌, drop, take}
use Rattle.page_picture.proofs.rows.put_eight.Given as goal

abbrev pub invariant-loop-place : goal.invariant-loop-place
invariant-loop-place l = l.text ≡ take l.place l.eight ++ drop l.place l.initial.text
