use Rattle.std.proofs.Common.{Some, None, refl, sym, ap, subst, ◌∙◌, arith}
use Rattle.std.proofs.lemmas.Option.{none-some, same_Some}
use Rattle.std.specs.Char.{to_ascii_lowercase}
use Rattle.multi_tag.specs.Form.{h}
use Rattle.multi_tag.specs.Part.{HasNoPartBefore}
use Rattle.multi_tag.proofs.CutLemmas.{small_front, small_empty, mark_alone, one_first, other_first, empty_or_not}
use Rattle.multi_tag.proofs.ClosedLemmas.{font_no_part, font_version_part, optional_part}
use Rattle.multi_tag.proofs.closed.read_font.Goals as goal

pub returns-in_err-number-clause-none : goal.returns-in_err-number-clause-none
returns-in_err-number-clause-none c =
    let lacks = sym c.in_range.ensures ∙ c.in_err-number.was in
    rw c.from_residual.ensures (font_no_part _ _ _ c.read_numeral-value.ensures (λ o behind e f. none-some o (sym lacks ∙ e)) (λ m behind e f. absurd (none-some (Some m) (sym lacks ∙ e))))

pub returns-in_default-clause-none : goal.returns-in_default-clause-none
returns-in_default-clause-none c =
    let empty = small_empty c.read_numeral-value.result.1.now c.in_default.len_below in
    font_no_part _ _ _ c.read_numeral-value.ensures (λ o behind e f. empty_or_not empty f) (λ m behind e f. absurd (empty_or_not empty f))

pub returns-then-stop-ne44-clause-none : goal.returns-then-stop-ne44-clause-none
returns-then-stop-ne44-clause-none c =
    let front = small_front c.read_numeral-value.result.1.now _ c.in-len1-up.len_at_least refl in
    font_no_part _ _ _ c.read_numeral-value.ensures (λ o behind e f. c.if-stop-eq93.false (mark_alone 93 _ (omega arith) (one_first front f).0)) (λ m behind e f. absurd (c.if-stop-ne44.true (mark_alone 44 _ (omega arith) (one_first front f).0)))

pub returns-in_err-number-2-clause-none : goal.returns-in_err-number-2-clause-none
returns-in_err-number-2-clause-none c =
    let front = small_front c.read_numeral-value.result.1.now 44 c.in-len1-up.len_at_least (ap to_ascii_lowercase c.if-stop-ne44.false) in
    let lacks = sym c.in_range.ensures ∙ c.in_ok-number.was ∙ ap Some c.in_err-number-2.was in
    rw c.from_residual-in_err-number-2.ensures (font_no_part _ _ _ c.read_numeral-value.ensures (λ o behind e f. other_first refl front f) (λ m behind e f. absurd (none-some m (same_Some None (Some m) (sym lacks ∙ e)))))

pub returns-in_err-version-clause-none : goal.returns-in_err-version-clause-none
returns-in_err-version-clause-none c =
    let front = small_front c.read_numeral-value.result.1.now 44 c.in-len1-up.len_at_least (ap to_ascii_lowercase c.if-stop-ne44.false) in
    rw c.from_residual-in_err-version.ensures (font_no_part _ _ _ c.read_numeral-value.ensures (λ o behind e f. other_first refl front f) (λ m behind e f. subst (HasNoPartBefore 93 (h 0 65535)) (one_first front f).1 c.in_err-version.ensures.none))

pub returns-clause-some : goal.returns-clause-some
returns-clause-some c =
    let stop = small_front c.read_numeral-value.result.1.now 44 c.in-len1-up.len_at_least (ap to_ascii_lowercase c.if-stop-ne44.false) in
    let passes = sym c.in_range.ensures ∙ c.in_ok-number.was ∙ ap Some c.in_ok-number-2.was in
    font_version_part _ _ _ _ _ (optional_part 1 255 44 _ _ _ c.read_numeral-value.ensures (Some c.in_ok-number-2.number) _ stop passes) c.in_ok-version.ensures.some
