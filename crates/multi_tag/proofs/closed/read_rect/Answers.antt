use Rattle.std.proofs.Common.{refl}
use Rattle.multi_tag.specs.Form.{d, between}
use Rattle.multi_tag.proofs.ClosedLemmas.{means_no_part, between_part, pair_no_first, pair_no_second}
use Rattle.multi_tag.proofs.closed.read_rect.Goals as goal

pub returns-in_err-y-clause-none : goal.returns-in_err-y-clause-none
returns-in_err-y-clause-none c =
    rw c.from_residual-in_err-y.ensures (means_no_part _ _ _ (pair_no_second _ _ _ _ c.in_ok-x.ensures.some (pair_no_first _ _ c.in_err-y.ensures.none)))

pub returns-in_err-w-clause-none : goal.returns-in_err-w-clause-none
returns-in_err-w-clause-none c =
    rw c.from_residual-in_err-w.ensures (means_no_part _ _ _ (pair_no_second _ _ _ _ c.in_ok-x.ensures.some (pair_no_second _ _ _ _ c.in_ok-y.ensures.some (pair_no_first _ _ c.in_err-w.ensures.none))))

pub returns-in_err-h-clause-none : goal.returns-in_err-h-clause-none
returns-in_err-h-clause-none c =
    rw c.from_residual-in_err-h.ensures (means_no_part _ _ _ (pair_no_second _ _ _ _ c.in_ok-x.ensures.some (pair_no_second _ _ _ _ c.in_ok-y.ensures.some (pair_no_second _ _ _ _ c.in_ok-w.ensures.some c.in_err-h.ensures.none))))

pub returns-clause-some : goal.returns-clause-some
returns-clause-some c =
    let third = between_part 44 (d 0 99999) (d 0 99999) _ _ _ _ _ c.in_ok-w.ensures.some c.in_ok-h.ensures.some in
    let second = between_part 44 (d 0 99999) (between 44 (d 0 99999) (d 0 99999)) _ _ (c.in_ok-w.w, c.in_ok-h.h) _ _ c.in_ok-y.ensures.some third in
    let (whole, is, f) = between_part 44 (d 0 99999) (between 44 (d 0 99999) (between 44 (d 0 99999) (d 0 99999))) _ _ (c.in_ok-y.y, (c.in_ok-w.w, c.in_ok-h.h)) _ _ c.in_ok-x.ensures.some second in
    (whole, is, (_, f, refl))
