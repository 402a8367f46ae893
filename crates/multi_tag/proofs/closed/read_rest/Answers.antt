use Rattle.multi_tag.specs.declared.tag.Tag.TheVariants.{CharSpacing}
use Rattle.multi_tag.specs.Form.{d}
use Rattle.multi_tag.proofs.ClosedLemmas.{means_no_part, number_lacks, optional_lacks, page_time_part, page_time_no_part}
use Rattle.multi_tag.proofs.closed.read_rest.Goals as goal

pub returns-in_err-on-in-PageTime-clause-none : goal.returns-in_err-on-in-PageTime-clause-none
returns-in_err-on-in-PageTime-clause-none c =
    rw (c.in-PageTime.is, c.from_residual-in_err-on-in-PageTime.ensures) (page_time_no_part _ c.in_err-on-in-PageTime.ensures.none)

pub returns-in_ok-on-in-PageTime-clause-some : goal.returns-in_ok-on-in-PageTime-clause-some
returns-in_ok-on-in-PageTime-clause-some c =
    rw c.in-PageTime.is (page_time_part _ _ _ _ c.in_ok-on-in-PageTime.ensures.some)

pub returns-in_err-pick-in-Font-clause-none : goal.returns-in_err-pick-in-Font-clause-none
returns-in_err-pick-in-Font-clause-none c = rw (c.in-Font.is, c.from_residual-in_err-pick-in-Font.ensures) c.in_err-pick-in-Font.ensures.none

pub returns-in_err-off_first-in-Flash-clause-none : goal.returns-in_err-off_first-in-Flash-clause-none
returns-in_err-off_first-in-Flash-clause-none c = rw (c.in-Flash.is, c.from_residual-in_err-off_first-in-Flash.ensures) c.in_err-off_first-in-Flash.ensures.none

pub returns-in_err-x-in-Rect-clause-none : goal.returns-in_err-x-in-Rect-clause-none
returns-in_err-x-in-Rect-clause-none c = rw (c.in-Rect.is, c.from_residual-in_err-x-in-Rect.ensures) c.in_err-x-in-Rect.ensures.none

pub returns-in_err-gap-in-NewLine-clause-none : goal.returns-in_err-gap-in-NewLine-clause-none
returns-in_err-gap-in-NewLine-clause-none c =
    rw (c.in-NewLine.is, c.from_residual-in_err-gap-in-NewLine.ensures) (means_no_part _ _ _ c.in_err-gap-in-NewLine.ensures.none)

pub returns-in_err-just-in-LineJust-clause-none : goal.returns-in_err-just-in-LineJust-clause-none
returns-in_err-just-in-LineJust-clause-none c =
    rw (c.in-LineJust.is, c.from_residual-in_err-just-in-LineJust.ensures) (means_no_part _ _ _ c.in_err-just-in-LineJust.ensures.none)

pub returns-in_err-just-in-PageJust-clause-none : goal.returns-in_err-just-in-PageJust-clause-none
returns-in_err-just-in-PageJust-clause-none c =
    rw (c.in-PageJust.is, c.from_residual-in_err-just-in-PageJust.ensures) (means_no_part _ _ _ c.in_err-just-in-PageJust.ensures.none)

pub returns-in_err-colour-in-Fore-clause-none : goal.returns-in_err-colour-in-Fore-clause-none
returns-in_err-colour-in-Fore-clause-none c =
    rw (c.in-Fore.is, c.from_residual-in_err-colour-in-Fore.ensures) (means_no_part _ _ _ c.in_err-colour-in-Fore.ensures.none)

pub returns-in_err-colour-in-Back-clause-none : goal.returns-in_err-colour-in-Back-clause-none
returns-in_err-colour-in-Back-clause-none c =
    rw (c.in-Back.is, c.from_residual-in_err-colour-in-Back.ensures) (means_no_part _ _ _ c.in_err-colour-in-Back.ensures.none)

pub returns-in_err-pixels-in-CharSpacing-clause-none : goal.returns-in_err-pixels-in-CharSpacing-clause-none
returns-in_err-pixels-in-CharSpacing-clause-none c =
    rw (c.in-CharSpacing.is, c.from_residual-in_err-pixels-in-CharSpacing.ensures)
    (means_no_part (d 0 255) CharSpacing _ (number_lacks 0 255 _ c.in_err-pixels-in-CharSpacing.ensures.none))

pub returns-in_err-pixels-in-CharSpacing-2-clause-none : goal.returns-in_err-pixels-in-CharSpacing-2-clause-none
returns-in_err-pixels-in-CharSpacing-2-clause-none c =
    let part = rw c.in_err-pixels-in-CharSpacing-2.was at c.in_ok-pixels-in-CharSpacing.ensures.some in
    rw (c.in-CharSpacing.is, c.from_residual-in_err-pixels-in-CharSpacing-2.ensures) (means_no_part (d 0 255) CharSpacing _ (optional_lacks 0 255 _ _ part))
