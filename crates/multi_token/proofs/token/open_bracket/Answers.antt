use Rattle.std.proofs.Common.{◌≡◌, ℕ, ◌+◌, ◌-◌, length, List, Option, Some, None, true, arith, refl, ap, ◌∙◌, sym, eqb}
use Rattle.std.specs.Prelude.{slice_get, slice_range}
use Rattle.std.specs.List.{All}
use Rattle.std.specs.Option.{option_eq}
use Rattle.std.proofs.lemmas.Bool.{eqb-true, false≢true}
use Rattle.multi_token.specs.Counted.{charged}
use Rattle.multi_token.specs.Spelling.{IsPlain}
use Rattle.multi_token.proofs.PlaceLemmas.{none_opened, plain_is, tag_token}
use Rattle.multi_token.proofs.token.open_bracket.Goals as goal

told : (o : Option ℕ) (octet : ℕ) → option_eq eqb o (Some octet) ≡ true → o ≡ Some octet
told None octet e = absurd (false≢true e)
told (Some other) octet e = ap Some (eqb-true other octet e)

pub returns-then-eq-2-clause-spelled : goal.returns-then-eq-2-clause-spelled
returns-then-eq-2-clause-spelled c =
    let xs = c.args.source.now.octets in
    let found = c.read_plain-ending.ensures in
    let body = c.read_plain-ending.result.0.now in
    let end = c.args.at + 1 + length body in
    let (ended, steps) = found.ended (omega (arith, found.within, c.requires.room)) in
    let plain : All IsPlain (slice_range xs (c.args.at + 1) end) = rw (← found.octets) found.plain in
    let last : slice_get xs end ≡ Some 93 = sym ended.0 ∙ told c.read_plain-ending.result.1 93 (sym c.if-eq-2.ensures) in
    let size : end + 1 - c.args.at ≡ length body + 2 = omega arith in
    let k : length body + 1 ≡ length body + 2 - 1 = omega arith in
    (rw (← size) (tag_token xs c.args.at end c.requires.room c.requires.stands (omega (arith, c.if-len-eq0.false)) plain last), steps ∙ ap (charged c.args.source.now) k)

pub returns-else-eq-clause-fault : goal.returns-else-eq-clause-fault
returns-else-eq-clause-fault c =
    let xs = c.args.source.now.octets in
    let found = c.read_plain-ending.ensures in
    let body = c.read_plain-ending.result.0.now in
    let ending = c.read_plain-ending.result.1 in
    let end = c.args.at + 1 + length body in
    let (ended, steps) = found.ended (omega (arith, found.within, c.requires.room)) in
    let plain : All IsPlain (slice_range xs (c.args.at + 1) end) = rw (← found.octets) found.plain in (
      refl,
      none_opened xs c.args.at end ending c.requires.stands (omega arith) plain ended.0 ended.1
          (λ e. absurd (false≢true (c.if-eq.ensures ∙ ap (λ o. option_eq eqb o (Some 91)) e))) (λ e. omega (arith, c.if-len-eq0.true)),
      steps ∙ ap (λ (l : List ℕ). charged c.args.source.now (length l + 1)) (found.octets ∙ sym (plain_is xs (c.args.at + 1) end ending (omega arith) plain ended)),
    )

pub returns-else-eq-2-clause-fault : goal.returns-else-eq-2-clause-fault
returns-else-eq-2-clause-fault c =
    let xs = c.args.source.now.octets in
    let found = c.read_plain-ending.ensures in
    let body = c.read_plain-ending.result.0.now in
    let ending = c.read_plain-ending.result.1 in
    let end = c.args.at + 1 + length body in
    let (ended, steps) = found.ended (omega (arith, found.within, c.requires.room)) in
    let plain : All IsPlain (slice_range xs (c.args.at + 1) end) = rw (← found.octets) found.plain in (
      refl,
      none_opened xs c.args.at end ending c.requires.stands (omega arith) plain ended.0 ended.1
          (λ e. omega (arith, c.if-len-eq0.false)) (λ e. absurd (false≢true (c.if-eq-2.ensures ∙ ap (λ o. option_eq eqb o (Some 93)) e))),
      steps ∙ ap (λ (l : List ℕ). charged c.args.source.now (length l + 1)) (found.octets ∙ sym (plain_is xs (c.args.at + 1) end ending (omega arith) plain ended)),
    )
