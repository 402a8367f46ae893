use Rattle.std.proofs.Common.{◌≡◌, ℕ, ◌*◌, ◌++◌, drop}
use Rattle.page_picture.specs.Rows.{octet_marks}
use Rattle.page_picture.specs.internal.Marks.{IsTable}
use Rattle.page_picture.proofs.rows.mark_octets.Given as goal

abbrev pub invariant-loop-place : goal.invariant-loop-place
invariant-loop-place l = (mark : ℕ) → IsTable mark l.marks → l.text ≡ octet_marks mark l.octets (8 * l.place) ++ drop (8 * l.place) l.initial.text
