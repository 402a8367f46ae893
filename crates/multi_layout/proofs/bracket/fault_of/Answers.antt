use Rattle.multi_layout.proofs.Common.{◌≡◌, ℕ, ◌+◌, ◌-◌, List, refl, ap, subst, ◌∙◌, Counted, charged, charged-charged, Token}
use Rattle.std.specs.Prelude.{drop, min}
use Rattle.multi_token.specs.declared.token.Kind.TheVariants as kinds
use Rattle.multi_token.specs.Tokens.{IsBracketed, IsTagOf, body_of, bracket_steps, octets_of}
use Rattle.multi_tag.specs.Body.{HasName}
use Rattle.multi_tag.proofs.TagOfLemmas.{tag_of-value, tag_of-unsupported}
use Rattle.multi_tag.specs.declared.tag.TagFault.TheVariants.{Value, Unsupported}
use Rattle.multi_meaning.proofs.ItemAtLemmas.{fault_read, open_read}
use Rattle.multi_layout.proofs.bracket.fault_of.Goals as goal

-- the steps of reading a body and then its name
both : (old : Counted) {read told : Counted} (len : ℕ) → read ≡ charged old (len + 2 - 1) → told ≡ charged read (min 3 (len + 2 - 2)) → told ≡ charged old (len + 2 - 1 + min 3 (len + 2 - 2))
both old {read} {told} len first second = second ∙ ap (λ (s : Counted). charged s (min 3 (len + 2 - 2))) first ∙ charged-charged old (len + 2 - 1) (min 3 (len + 2 - 2))

pub returns-in-Value : goal.returns-in-Value
returns-in-Value c =
    let octets = c.args.source.now.octets in
    let len = c.in-Ok-Tag.len in
    let token : Token = record { at = c.args.at; len = len + 2; kind = kinds.Tag } in
    let same = ap (λ (s : Counted). s.octets) c.in-Ok-Tag.ensures.steps in
    let tag : IsTagOf octets token = record { is = subst (IsBracketed octets c.args.at 91) c.in-Ok-Tag.field-0-is c.in-Ok-Tag.ensures.spelled; kind = refl } in
    let has : HasName (body_of octets token) = subst (λ (os : List ℕ). HasName (body_of os token)) same (c.read_fault.ensures.value.0 c.in-Value.is) in
    record {
      fault = (
        len + 2 - 1 + min 3 (len + 2 - 2),
        both c.args.source.now len (c.in-Ok-Tag.ensures.steps ∙ ap (λ b. charged c.args.source.now (octets_of b - 1)) c.in-Ok-Tag.field-0-is) c.read_fault.ensures.steps,
        fault_read octets c.args.at (len + 2) _ _ Value tag (tag_of-value (body_of octets token) has (λ read spells. c.requires.none read (len + 2) (tag, spells))) refl refl,
      );
    }

pub returns-in-Unsupported : goal.returns-in-Unsupported
returns-in-Unsupported c =
    let octets = c.args.source.now.octets in
    let len = c.in-Ok-Tag.len in
    let token : Token = record { at = c.args.at; len = len + 2; kind = kinds.Tag } in
    let same = ap (λ (s : Counted). s.octets) c.in-Ok-Tag.ensures.steps in
    let tag : IsTagOf octets token = record { is = subst (IsBracketed octets c.args.at 91) c.in-Ok-Tag.field-0-is c.in-Ok-Tag.ensures.spelled; kind = refl } in
    let none : ¬ (HasName (body_of octets token)) = subst (λ (os : List ℕ). ¬ (HasName (body_of os token))) same (c.read_fault.ensures.unsupported.0 c.in-Unsupported.is) in
    record {
      fault = (
        len + 2 - 1 + min 3 (len + 2 - 2),
        both c.args.source.now len (c.in-Ok-Tag.ensures.steps ∙ ap (λ b. charged c.args.source.now (octets_of b - 1)) c.in-Ok-Tag.field-0-is) c.read_fault.ensures.steps,
        fault_read octets c.args.at (len + 2) _ _ Unsupported tag (tag_of-unsupported (body_of octets token) none) refl refl,
      );
    }

pub returns-in_default-2 : goal.returns-in_default-2
returns-in_default-2 c =
    let octets = c.args.source.now.octets in
    let none = rw c.in_default.is at c.read_bracket.ensures.none_stands in
    let taken = rw c.in_default.is at c.read_bracket.ensures.fault_steps in
    let steps = bracket_steps 91 (drop (c.args.at + 1) octets) in
    record { fault = (steps, taken, open_read octets c.args.at steps c.requires.stands none refl) }
