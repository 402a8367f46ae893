use Rattle.std.proofs.Common.{arith, ap, sym, ◌∙◌}
use Rattle.message_cures.specs.Cures.{texts}
use Rattle.message_cures.specs.Taking.{takes}
use Rattle.message_cures.proofs.TrailLemmas
use Rattle.message_cures.proofs.mending.mended.Goals as goal

pub returns-in-TooLong-clause-tries : goal.returns-in-TooLong-clause-tries
returns-in-TooLong-clause-tries c =
    let (so_far, count) = c.loop-change.invariant in
    let not = ap (takes c.args.judge.now) (sym c.deref.ensures.value) ∙ c.in-TooLong.ensures.tried in
    TrailLemmas.more_tries c.args.judge.now (texts c.args.refused.now.items) c.loop-change.refused.items c.push.new.self.items c.in-Some.other c.args.judged.now c.loop-change.judged c.tried.new.judged so_far c.in_ok-push-in-TooLong.ensures.items not c.tried.ensures.counted

pub loop-change-preserved : goal.loop-change-preserved
loop-change-preserved c =
    let (so_far, count) = c.loop-change.invariant in
    let not = ap (takes c.args.judge.now) (sym c.deref.ensures.value) ∙ c.in-Refused.ensures.tried in (
      TrailLemmas.more_tries c.args.judge.now (texts c.args.refused.now.items) c.loop-change.refused.items c.push-in-Refused.new.self.items c.in-Some.other c.args.judged.now c.loop-change.judged c.tried.new.judged so_far c.in_ok-push-in-Refused.ensures.items not c.tried.ensures.counted,
      omega (arith, count, c.tried.ensures.counted),
    )
