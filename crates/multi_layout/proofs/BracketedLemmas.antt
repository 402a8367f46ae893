-- Items that begin with a bracket, read and judged in one.
use Rattle.multi_layout.proofs.Common.{◌≡◌, ℕ, ◌+◌, ◌-◌, ◌^◌, ◌<◌, ◌⊎◌, List, length, take, drop, slice_get, Option, Some, None, Result, Ok, Err, Bool, refl, ap, subst, ◌∙◌, arith, Counted, charged, charged-charged, Tag, SignData, SyntaxError, Does, Shows, Meaning, Pass, sym}
use Rattle.std.specs.Prelude.{IfSome, IfNone, min}
use Rattle.multi_tag.specs.declared.tag.Tag.TheVariants.{HexChar}
use Rattle.multi_tag.specs.Closed.{IsClosedTag, HasNoClosedTag}
use Rattle.multi_tag.proofs.AheadLemmas.{front_length, tag_there, no_tag_there}
use Rattle.multi_judge.specs.internal.Passed.{JudgesItem}
use Rattle.multi_judge.specs.declared.line.Line.{Line}
use Rattle.multi_meaning.specs.Meaning.{said_by}
use Rattle.multi_meaning.specs.Steps.{looks}
use Rattle.multi_meaning.proofs.ItemAtLemmas.{doubled_read, tag_read}
use Rattle.multi_layout.specs.internal.Bracketed.{IsBracketedJudged, JudgesRead, JudgesAhead}
use Rattle.multi_meaning.specs.internal.ItemAt.{IsBracketedRead}
use Rattle.multi_layout.proofs.WalkLemmas.{same_octets}

-- a tag that is no character by its number says that it is done
pub says_tag : (tag : Tag) → ((number : ℕ) → tag ≡ HexChar number → ⊥) → said_by tag ≡ Does tag
says_tag (HexChar number) other = absurd (other number refl)
says_tag tag other = refl

-- octets are read ahead after a bracket, and the tag is judged that was read of them
module _ (words : Bool) (sign : SignData) (source lent : Counted) (at : ℕ) (front : List ℕ) (room : length source.octets < 2 ^ 63) (stands : slice_get source.octets at ≡ Some 91) (is : front ≡ take 26 (drop (at + 1) source.octets)) (lends : lent ≡ charged source (length front)) (old : Pass) where
  abbrev pub steps : ℕ
  steps = min 26 (length source.octets - (at + 1))

  pub lent_steps : lent ≡ charged source steps
  lent_steps = lends ∙ ap (charged source) (front_length 26 (at + 1) source.octets front is)

  judged_there : (tag : Tag) (len : ℕ) (result : Result (Option Line) SyntaxError) (new : Pass) (judged : Counted) → IsClosedTag front tag len → judged ≡ charged lent (looks (said_by tag))
      → JudgesItem words sign old (said_by tag) result new → IsBracketedJudged words sign source at 1 (len + 1) old result new judged
  judged_there tag len result new judged closed looked fine = record {
    means = said_by tag;
    steps = steps;
    read = lent;
    item = tag_read source.octets at tag (len + 1) (tag_there source.octets at tag len room stands (subst (λ ys. IsClosedTag ys tag len) is closed));
    reads = lent_steps;
    judges = looked;
    item_judged = fine;
  }

  pub judges_ahead : (read : Option (Tag × ℕ)) (result : Option (Result ℕ SyntaxError)) (new : Pass) (judged : Counted) → IfSome read (λ (tag, len). IsClosedTag front tag len) → IfNone read (HasNoClosedTag front)
      → JudgesRead words sign old lent read result new judged → JudgesAhead words sign source at old result new judged
  judges_ahead None None new judged some none e = (no_tag_there source.octets at (subst HasNoClosedTag is none), e ∙ lent_steps)
  judges_ahead (Some (tag, len)) (Some (Ok long)) new judged some none (same, looked, (ended, fine)) =
      rw same (ended, judged_there tag len (Ok ended) new judged some looked fine)
  judges_ahead (Some (tag, len)) (Some (Err error)) new judged some none (looked, fine) = (len + 1, judged_there tag len (Err error) new judged some looked fine)
  judges_ahead None (Some result) new judged some none e = absurd e
  judges_ahead (Some read) None new judged some none e = absurd e

-- what is judged after one octet that was read is judged with it
pub with_first : (words : Bool) (sign : SignData) (source : Counted) {read : Counted} (at len : ℕ) (old : Pass) (result : Result (Option Line) SyntaxError) (new : Pass) (judged : Counted) → read ≡ charged source 1 → IsBracketedJudged words sign read at 1 len old result new judged
    → IsBracketedJudged words sign source at 0 len old result new judged
with_first words sign source {read} at len old result new judged step j = record {
  means = j.means;
  steps = 1 + j.steps;
  read = j.read;
  item = subst (λ (os : List ℕ). IsBracketedRead os at len j.means (0 + (1 + j.steps))) (same_octets step) (subst (IsBracketedRead read.octets at len j.means) (omega arith) j.item);
  reads = j.reads ∙ ap (λ (s : Counted). charged s j.steps) step ∙ charged-charged source 1 j.steps;
  judges = j.judges;
  item_judged = j.item_judged;
}

-- a doubled bracket is read and judged
pub doubled_judged : (words : Bool) (sign : SignData) (source : Counted) {read : Counted} (at bracket : ℕ) (old : Pass) (result : Result (Option Line) SyntaxError) (new : Pass) (judged : Counted) → length source.octets < 2 ^ 63 → (bracket ≡ 91) ⊎ (bracket ≡ 93)
    → slice_get source.octets at ≡ Some bracket → slice_get source.octets (at + 1) ≡ Some bracket → read ≡ charged source 1 → judged ≡ charged read (looks (Shows bracket)) → JudgesItem words sign old (Shows bracket) result new
    → IsBracketedJudged words sign source at 0 2 old result new judged
doubled_judged words sign source {read} at bracket old result new judged room is first second step looked fine = record {
  means = Shows bracket;
  steps = 1;
  read = read;
  item = doubled_read source.octets at bracket room is first second;
  reads = step;
  judges = looked;
  item_judged = fine;
}

-- a tag that was read is judged, by what it says
pub read_judged : (words : Bool) (sign : SignData) (old : Pass) (source : Counted) (tag : Tag) (len : ℕ) (means : Meaning) (result : Result (Option Line) SyntaxError) (ended : Option Line) (new : Pass) (judged : Counted) → said_by tag ≡ means
    → judged ≡ charged source (looks means) → JudgesItem words sign old means result new → result ≡ Ok ended → JudgesRead words sign old source (Some (tag, len)) (Some (Ok len)) new judged
read_judged words sign old source tag len means result ended new judged says looked fine is =
    (refl, looked ∙ ap (λ m. charged source (looks m)) (sym says), (ended, subst (λ m. JudgesItem words sign old m (Ok ended) new) (sym says) (subst (λ r. JudgesItem words sign old means r new) is fine)))
