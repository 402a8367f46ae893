use Rattle.std.proofs.Common.{◌≡◌, ◌≤◌, length, arith, refl, inr}
use Rattle.latsefur_c.proofs.JudgedLemmas
use Rattle.latsefur_c.proofs.export.latsefur_check_all.Goals as goal

pub loop-place-init : goal.loop-place-init
loop-place-init c = JudgedLemmas.none_yet _ c.args.texts.now c.args.verdicts.now

pub loop-place-preserved : goal.loop-place-preserved
loop-place-preserved c =
    JudgedLemmas.one_more c.in-Ok.sign c.args.texts.now c.args.verdicts.now c.loop-place.verdicts c.loop-place.place _ c.judged.result c.loop-place-test.true c.loop-place.invariant c.judged.ensures

pub returns-after-loop-place : goal.returns-after-loop-place
returns-after-loop-place c =
    let last : c.loop-place.place ≡ length c.args.texts.now = omega (arith, c.loop-place-test.false, c.loop-place.auto.place-end) in
    let room : length c.args.texts.now ≤ length c.args.verdicts.now = omega (arith, c.if-verdicts-texts.false) in
    record { judged = inr (inr (refl, (c.in-Ok.sign, c.in-Ok.ensures.ok, JudgedLemmas.all_judged c.in-Ok.sign c.args.texts.now c.args.verdicts.now c.loop-place.verdicts c.loop-place.place last room c.loop-place.invariant))) }
