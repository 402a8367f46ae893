use Rattle.std.proofs.Common.{refl, ap, arith, inl, inr, sym, subst, ◌∙◌}
use Rattle.std.specs.Char.{to_ascii_lowercase}
use Rattle.std.proofs.lemmas.Option.{none-some}
use Rattle.multi_tag.specs.Form.{d?}
use Rattle.multi_tag.specs.Part.{HasNoPartBefore}
use Rattle.multi_tag.proofs.CutLemmas.{small_front, small_empty, mark_alone, one_first, empty_or_not}
use Rattle.multi_tag.proofs.ClosedLemmas.{times_no_part, optional_part, between_part}
use Rattle.multi_tag.proofs.closed.read_times.Goals as goal

pub returns-in_err-first-clause-none : goal.returns-in_err-first-clause-none
returns-in_err-first-clause-none c =
    let lacks = sym c.in_range.ensures ∙ c.in_err-first.was in
    rw c.from_residual.ensures (times_no_part _ _ _ _ c.read_numeral-value.ensures c.requires.letter (λ o behind e f. none-some o (sym lacks ∙ e)) (λ o behind e f. absurd (none-some o (sym lacks ∙ e))))

pub returns-in_default-clause-none : goal.returns-in_default-clause-none
returns-in_default-clause-none c =
    let empty = small_empty c.read_numeral-value.result.1.now c.in_default.len_below in
    times_no_part _ _ _ _ c.read_numeral-value.ensures c.requires.letter (λ o behind e f. empty_or_not empty f) (λ o behind e f. absurd (empty_or_not empty f))

pub returns-then-stop-eq93-clause-some : goal.returns-then-stop-eq93-clause-some
returns-then-stop-eq93-clause-some c =
    let stop = small_front c.read_numeral-value.result.1.now 93 c.in-len1-up.len_at_least (ap to_ascii_lowercase c.if-stop-eq93.true) in
    let (front, is, f) = optional_part 0 255 93 _ _ _ c.read_numeral-value.ensures c.in_ok-first.first _ stop (sym c.in_range.ensures ∙ c.in_ok-first.was) in
    (front, is, inl (c.in_ok-first.first, f, refl))

pub returns-then-to_ascii_lowercase-letter-clause-none : goal.returns-then-to_ascii_lowercase-letter-clause-none
returns-then-to_ascii_lowercase-letter-clause-none c =
    let front = small_front c.read_numeral-value.result.1.now _ c.in-len1-up.len_at_least refl in
    times_no_part _ _ _ _ c.read_numeral-value.ensures c.requires.letter (λ o behind e f. c.if-stop-eq93.false (mark_alone 93 _ (omega arith) (one_first front f).0))
    (λ o behind e f. absurd (c.if-to_ascii_lowercase-letter.true (c.to_ascii_lowercase.ensures.value ∙ (one_first front f).0)))

pub returns-in_err-second-clause-none : goal.returns-in_err-second-clause-none
returns-in_err-second-clause-none c =
    let front = small_front c.read_numeral-value.result.1.now _ c.in-len1-up.len_at_least refl in
    rw c.from_residual-in_err-second.ensures (times_no_part _ _ _ _ c.read_numeral-value.ensures c.requires.letter (λ o behind e f. c.if-stop-eq93.false (mark_alone 93 _ (omega arith) (one_first front f).0))
    (λ o behind e f. subst (HasNoPartBefore 93 (d? 0 255)) (one_first front f).1 c.in_err-second.ensures.none))

pub returns-clause-some : goal.returns-clause-some
returns-clause-some c =
    let front = small_front c.read_numeral-value.result.1.now c.args.letter c.in-len1-up.len_at_least cc in
    let first = optional_part 0 255 c.args.letter _ _ _ c.read_numeral-value.ensures c.in_ok-first.first _ front (sym c.in_range.ensures ∙ c.in_ok-first.was) in
    let (whole, is, f) = between_part c.args.letter (d? 0 255) (d? 0 255) _ _ _ _ _ first c.in_ok-second.ensures.some in
    (whole, is, inr f)
