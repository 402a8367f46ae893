-- What happens between two states of a reader and a writer.
use Rattle.std.specs.Prelude.{ℕ, List, [], ◌++◌, Option}
use Rattle.std.specs.Io.KnownBytes.{Appends, Consumes}
use Rattle.std.proofs.Common.{sym, subst}
use Rattle.std.proofs.lemmas.List.Concat.{flat_map-append}
use Rattle.std.proofs.KnownBytes.{Appends-nil, Appends-trans, Consumes-nil, Consumes-trans}
use Rattle.sign_tool.specs.Talk.{Event, heard, heard_by, said, said_by}

-- Octets are read and written (own).
abbrev pub Did : Option (List ℕ) → Option (List ℕ) → Option (List ℕ) → Option (List ℕ) → List Event → Type 0
Did input input' output output' events = Consumes input input' (heard events) × Appends output output' (said events)

-- Nothing is read or written (own).
pub did_nothing : (input output : Option (List ℕ)) → Did input input output output []
did_nothing input output = (Consumes-nil input, Appends-nil output)

-- One thing happens after the other (own).
pub did_both : (a b c d e f : Option (List ℕ)) (first second : List Event) → Did a b d e first → Did b c e f second
    → Did a c d f (first ++ second)
did_both a b c d e f first second one other = (
  subst (Consumes a c) (sym (flat_map-append heard_by first second)) (Consumes-trans a b c (heard first) (heard second) one.0 other.0),
  subst (Appends d f) (sym (flat_map-append said_by first second)) (Appends-trans d e f (said first) (said second) one.1 other.1),
)
