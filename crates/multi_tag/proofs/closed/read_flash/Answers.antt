use Rattle.std.proofs.Common.{refl, subst, arith}
use Rattle.std.proofs.lemmas.Bool.Decides.{nat_tests}
use Rattle.multi_tag.specs.Part.{HasNoPartBefore, times}
use Rattle.multi_tag.proofs.CutLemmas.{small_front, one_first, other_first}
use Rattle.multi_tag.proofs.ClosedLemmas.{flash_no_part, flash_on_part, flash_off_part}
use Rattle.multi_tag.proofs.closed.read_flash.Goals as goal

pub returns-in_err-on-in-116-clause-none : goal.returns-in_err-on-in-116-clause-none
returns-in_err-on-in-116-clause-none c =
    let e = small_front c.args.octets.now 116 c.in-len1-up.len_at_least (grind (arith, nat_tests)) in
    rw c.from_residual.ensures (flash_no_part _ (λ r f. other_first refl e f) (λ r f. subst (HasNoPartBefore 93 (times 111)) (one_first e f).1 c.in_err-on-in-116.ensures.none) (λ r f. absurd (other_first refl e f)))

pub returns-in_err-off-in-111-clause-none : goal.returns-in_err-off-in-111-clause-none
returns-in_err-off-in-111-clause-none c =
    let e = small_front c.args.octets.now 111 c.in-len1-up.len_at_least (grind (arith, nat_tests)) in
    rw c.from_residual-in_err-off-in-111.ensures (flash_no_part _ (λ r f. other_first refl e f) (λ r f. absurd (other_first refl e f)) (λ r f. subst (HasNoPartBefore 93 (times 116)) (one_first e f).1 c.in_err-off-in-111.ensures.none))

pub returns-in_ok-on-in-116-clause-some : goal.returns-in_ok-on-in-116-clause-some
returns-in_ok-on-in-116-clause-some c =
    flash_on_part _ _ _ _ _ (small_front c.args.octets.now 116 c.in-len1-up.len_at_least (grind (arith, nat_tests))) c.in_ok-on-in-116.ensures.some

pub returns-in_ok-off-in-111-clause-some : goal.returns-in_ok-off-in-111-clause-some
returns-in_ok-off-in-111-clause-some c =
    flash_off_part _ _ _ _ _ (small_front c.args.octets.now 111 c.in-len1-up.len_at_least (grind (arith, nat_tests))) c.in_ok-off-in-111.ensures.some
