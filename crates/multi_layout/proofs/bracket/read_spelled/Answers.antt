use Rattle.multi_layout.proofs.Common.{◌≡◌, ℕ, ◌+◌, ◌-◌, length, List, Some, Tag, refl, ap, sym, subst, ◌∙◌, Counted, charged, charged-charged, code_of, Does, Meaning}
use Rattle.std.specs.Prelude.{min, slice_get}
use Rattle.multi_token.proofs.PlaceLemmas.{none_closing}
use Rattle.multi_tag.specs.Closed.{IsTagAt}
use Rattle.multi_meaning.proofs.ItemAtLemmas.{closing_read, doubled_read, read_is, read_not, tag_read}
use Rattle.multi_tag.specs.declared.tag.Tag.TheVariants.{HexChar}
use Rattle.multi_meaning.specs.Meaning.{said_by}
use Rattle.multi_meaning.specs.internal.ItemAt.{IsFaultRead, IsBracketedRead}
use Rattle.multi_layout.proofs.WalkLemmas.{same_octets}
use Rattle.multi_layout.proofs.bracket.read_spelled.Goals as goal

pub returns-then-eq-clause-item : goal.returns-then-eq-clause-item
returns-then-eq-clause-item c =
    let next = sym c.read.ensures.octet ∙ read_is c.read.result c.args.bracket (sym c.if-eq.true ∙ c.eq.ensures) in
    (1, c.read.ensures.step, rw c.from.ensures (doubled_read c.args.source.now.octets c.args.at c.args.bracket c.requires.room c.requires.bracket c.requires.stands next))

pub returns-then-bracket-eq93-clause-fault : goal.returns-then-bracket-eq93-clause-fault
returns-then-bracket-eq93-clause-fault c =
    let octets = c.args.source.now.octets in
    let first = c.requires.stands ∙ ap Some c.if-bracket-eq93.true in
    let other = λ (next : slice_get octets (c.args.at + 1) ≡ Some 93). read_not c.read.result c.args.bracket (sym c.if-eq.false ∙ c.eq.ensures) (c.read.ensures.octet ∙ next ∙ ap Some (sym c.if-bracket-eq93.true)) in
    (1, c.read.ensures.step, closing_read octets c.args.at first (none_closing octets c.args.at first other))

-- what `read_ahead` gives
module _ (start : Counted) {read : Counted} (at : ℕ) (tag : Tag) (len : ℕ) (step : read ≡ charged start 1) (there : IsTagAt read.octets at tag len) {new : Counted} (steps : new ≡ charged read (min 26 (length read.octets - (at + 1)))) where
  is_there : IsTagAt start.octets at tag len
  is_there = subst (λ (os : List ℕ). IsTagAt os at tag len) (same_octets step) there

  item_ahead : {means : Meaning} → said_by tag ≡ means → (k : ℕ) × (new ≡ charged start k) × IsBracketedRead start.octets at len means k
  item_ahead says =
      let k = min 26 (length start.octets - (at + 1)) in
      let ahead : min 26 (length read.octets - (at + 1)) ≡ k = ap (λ (os : List ℕ). min 26 (length os - (at + 1))) (same_octets step) in (
        1 + k,
        steps ∙ ap (charged read) ahead ∙ ap (λ (s : Counted). charged s k) step ∙ charged-charged start 1 k,
        subst (λ means. IsBracketedRead start.octets at len means (1 + k)) says (tag_read start.octets at tag len is_there),
      )

says_tag : (tag : Tag) → ((number : ℕ) → tag ≡ HexChar number → ⊥) → said_by tag ≡ Does tag
says_tag (HexChar number) other = absurd (other number refl)
says_tag tag other = refl

pub returns-in-HexChar-clause-item : goal.returns-in-HexChar-clause-item
returns-in-HexChar-clause-item c = item_ahead c.args.source.now c.args.at c.in-Some.tag c.in-Some.len c.read.ensures.step c.in-Some.ensures.some c.in-Some.ensures.steps (ap said_by c.in-HexChar.is)

pub returns-in_default-tag-clause-item : goal.returns-in_default-tag-clause-item
returns-in_default-tag-clause-item c =
    item_ahead c.args.source.now c.args.at c.in-Some.tag c.in-Some.len c.read.ensures.step c.in-Some.ensures.some c.in-Some.ensures.steps (says_tag c.in-Some.tag c.in_default-tag.not-HexChar)

pub returns-in_default-clause-fault : goal.returns-in_default-clause-fault
returns-in_default-clause-fault c =
    let start = c.args.source.now in
    let first = same_octets c.read.ensures.step in
    let second = same_octets c.read_ahead.ensures.steps ∙ first in
    let ahead = λ (os : List ℕ). min 26 (length os - (c.args.at + 1)) in
    let (k, told, fault) = c.fault_of.ensures.fault in (
      1 + ahead start.octets + k,
      told
          ∙ ap (λ (s : Counted). charged s k) (c.read_ahead.ensures.steps ∙ ap (charged c.read.new.self) (ap ahead first) ∙ ap (λ (s : Counted). charged s (ahead start.octets)) c.read.ensures.step ∙ charged-charged start 1 (ahead start.octets))
          ∙ charged-charged start (1 + ahead start.octets) k,
      subst (λ (os : List ℕ). IsFaultRead os c.args.at (code_of c.fault_of.result) (1 + ahead os + k)) second fault,
    )
