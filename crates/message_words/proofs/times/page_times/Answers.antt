use Rattle.std.proofs.Common.{◌+◌, [], ◌∷◌, ◌++◌, map, sym, ap, subst, ◌∙◌, cond, arith}
use Rattle.std.proofs.lemmas.List.{map-append}
use Rattle.multi_token.specs.Counted.{Counted}
use Rattle.multi_meaning.specs.Meaning.{meaning}
use Rattle.multi_layout.specs.Items.{IsNext, is_page_said}
use Rattle.multi_layout.proofs.ItemLemmas
use Rattle.message_words.specs.PageTimes.{times_data}
use Rattle.message_words.proofs.PageTimesLemmas
use Rattle.message_words.proofs.times.page_times.Goals as goal

pub loop-item-init : goal.loop-item-init
loop-item-init c = record {
  source = ap (λ (s : Counted). s.octets) c.new-source.ensures;
  within = omega arith;
  passed = PageTimesLemmas.begins c.args.sign.now c.args.message.now (map times_data c.new-ended.result.items) (times_data c.usual-times.result) (ap (map times_data) c.new-ended.ensures.items) c.usual-times.ensures;
}

pub loop-item-preserved : goal.loop-item-preserved
loop-item-preserved c =
    let h = c.loop-item.invariant in
    let sign = c.args.sign.now in
    let octets = c.args.message.now in
    let at = c.loop-item.at in
    let read = c.in-Some.item in
    let next = subst (λ o. IsNext o at read) h.source c.in-Some.ensures.next in
    let item = meaning next.item in
    let ended = map times_data c.loop-item.ended.items in
    let now = PageTimesLemmas.seen_as (is_page_said read.tag) c.loop-item.ended.items c.end_page.new.ended.items c.loop-item.times c.in_ok-end_page.ensures in
    let is = now ∙ ap (λ b. cond b (ended ++ times_data c.loop-item.times ∷ []) ended) (sym (ItemLemmas.page_said item read.tag next.is)) in
    record {
      source = ap (λ (s : Counted). s.octets) c.in-Some.ensures.steps.3 ∙ h.source;
      within = next.within;
      passed = PageTimesLemmas.more sign octets at (at + read.len) ended (map times_data c.end_page.new.ended.items) (times_data c.loop-item.times) (times_data c.after-times.result) item
          h.passed (ap (map meaning) next.next) is (λ place in_force. c.after-times.ensures place item next.is in_force);
    }

pub returns : goal.returns
returns c =
    let h = c.loop-item.invariant in
    let octets = c.args.message.now in
    let none = ap (map meaning) (rw h.source at c.in_default.ensures.end) in
    ap (map times_data) c.in_ok-push.ensures.items ∙ map-append times_data c.loop-item.ended.items (c.loop-item.times ∷ [])
    ∙ PageTimesLemmas.ends c.args.sign.now octets c.loop-item.at (map times_data c.loop-item.ended.items) (times_data c.loop-item.times) h.passed none
