use Rattle.std.proofs.Common.{◌<◌, ◌≤◌, ◌+◌, ◌++◌, ap, ◌∙◌, arith, length}
use Rattle.multi_meaning.specs.Verdict.{verdict}
use Rattle.message_store.specs.declared.message.Permanent.{Permanent}
use Rattle.sign_report.specs.Permanents.{as_list, refusal_of, refusals_from}
use Rattle.sign_report.proofs.PermanentLemmas.{none_left, one_more, short_text}
use Rattle.sign_report.proofs.permanents.refusals_of.Goals as goal

pub refusal_of-requires : goal.refusal_of-requires
refusal_of-requires c =
    let messages = c.permanents-permanent-items.result.now in
    let i = c.loop-permanent.permanent-index in
    let d = c.permanent-item.result in
    let within : i < length messages = omega (arith, c.loop-permanent-test.true, c.loop-permanent.auto.permanent-index-end) in
    let text = ap length c.deref.ensures.value ∙ ap (λ (m : Permanent). length m.multi.items) c.permanent-item.is in
    omega (arith, text, short_text c.args.store.now messages i d c.requires c.loop-permanent.invariant.same within)

pub loop-permanent-preserved : goal.loop-permanent-preserved
loop-permanent-preserved c =
    let sign = c.args.sign.now in
    let messages = c.permanents-permanent-items.result.now in
    let i = c.loop-permanent.permanent-index in
    let number = c.loop-permanent.number + 1 in
    let found = c.loop-permanent.refusals.items in
    let within : i < length messages = omega (arith, c.loop-permanent-test.true, c.loop-permanent.auto.permanent-index-end) in
    let text = c.deref.ensures.value ∙ ap (λ (m : Permanent). m.multi.items) c.permanent-item.is in
    let grown = c.in_ok-push_refusal.ensures ∙ ap (λ r. found ++ as_list r) (c.refusal_of.ensures ∙ ap (λ t. refusal_of number (verdict sign t)) text) in
    record {
      same = c.loop-permanent.invariant.same;
      few = c.loop-permanent.invariant.few;
      count = ap (λ n. n + 1) c.loop-permanent.invariant.count;
      so_far = one_more sign messages i number found (refusals_from sign 1 c.args.store.now.permanent) c.permanent-item.result c.push_refusal.new.refusals.items within grown c.loop-permanent.invariant.so_far;
    }

pub returns : goal.returns
returns c =
    let messages = c.permanents-permanent-items.result.now in
    let i = c.loop-permanent.permanent-index in
    let past : length messages ≤ i = omega (arith, c.loop-permanent-test.false, c.loop-permanent.auto.permanent-index-end) in
    none_left c.args.sign.now messages i (c.loop-permanent.number + 1) c.loop-permanent.refusals.items _ past c.loop-permanent.invariant.so_far
