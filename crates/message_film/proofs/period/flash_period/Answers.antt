use Rattle.std.proofs.Common.{◌∙◌, ◌+◌, map, ap, subst, arith}
use Rattle.multi_token.specs.Counted.{Counted}
use Rattle.multi_meaning.specs.Meaning.{meaning}
use Rattle.multi_layout.specs.Items.{IsNext}
use Rattle.message_film.proofs.FlashLemmas
use Rattle.message_film.proofs.FlashLemmas.{Passed}
use Rattle.message_film.proofs.period.flash_period.Goals.{After-common_time-common}
use Rattle.message_film.proofs.period.flash_period.Goals as goal

pub loop-item-init : goal.loop-item-init
loop-item-init c = record {
  source = ap (λ (s : Counted). s.octets) c.new-source.ensures;
  within = omega arith;
  passed = FlashLemmas.begins c.args.sign.now c.args.octets.now;
}

-- what was read, of the octets of the string
next : (c : After-common_time-common) → IsNext c.args.octets.now c.loop-item.at c.in-Some.item
next c = subst (λ o. IsNext o c.loop-item.at c.in-Some.item) c.loop-item.invariant.source c.in-Some.ensures.next

-- the item is passed
passed : (c : After-common_time-common) → Passed c.args.sign.now c.args.octets.now (c.loop-item.at + c.in-Some.item.len) c.common_time-common.result
passed c =
    let n = next c in
    FlashLemmas.passed_more c.args.sign.now c.args.octets.now c.loop-item.at (c.loop-item.at + c.in-Some.item.len) c.loop-item.period c.item_time-flash.result c.common_time-common.result (meaning n.item) (ap (map meaning) n.next) (c.item_time-flash.ensures.time (meaning n.item) n.is)
    c.common_time-common.ensures c.loop-item.invariant.passed

pub returns-then-common-from : goal.returns-then-common-from
returns-then-common-from c =
    FlashLemmas.too_long c.args.sign.now c.args.octets.now _ c.common_time-common.result (passed (goal.at.returns-then-common-from c).After-common_time-common) (omega (arith, c.if-common-from.true, c.from.ensures))

pub loop-item-preserved : goal.loop-item-preserved
loop-item-preserved c =
    let here = (goal.at.loop-item-preserved c).After-common_time-common in
    record {
      source = ap (λ (s : Counted). s.octets) c.in-Some.ensures.steps.3 ∙ c.loop-item.invariant.source;
      within = (next here).within;
      passed = passed here;
    }

pub returns : goal.returns
returns c =
    let h = c.loop-item.invariant in
    FlashLemmas.at_end c.args.sign.now c.args.octets.now c.loop-item.at c.loop-item.period h.passed (ap (map meaning) (rw h.source at c.in_default.ensures.end))
