use Rattle.std.proofs.Common.{◌++◌, sym, ap, subst, ◌∙◌, arith}
use Rattle.multi_token.specs.Counted.{Counted}
use Rattle.multi_token.specs.Reading.{reading}
use Rattle.multi_layout.specs.Items.{IsNext}
use Rattle.message_words.specs.Said.{said_from, said_items}
use Rattle.message_words.proofs.SaidLemmas
use Rattle.message_words.proofs.said.said_items.Goals as goal

pub loop-item-init : goal.loop-item-init
loop-item-init c = record {
  source = ap (λ (s : Counted). s.octets) c.new-source.ensures;
  within = omega arith;
  so_far = ap (λ l. l ++ said_from 0 (reading c.args.message.now).items) (sym c.new-all.ensures.items);
}

pub loop-item-preserved : goal.loop-item-preserved
loop-item-preserved c =
    let h = c.loop-item.invariant in
    let octets = c.args.message.now in
    let next = subst (λ o. IsNext o c.loop-item.at c.in-Some.item) h.source c.in-Some.ensures.next in
    record {
      source = ap (λ (s : Counted). s.octets) c.in-Some.ensures.steps.3 ∙ h.source;
      within = next.within;
      so_far = SaidLemmas.next_said octets c.loop-item.at c.in-Some.item c.loop-item.all.items c.push.new.self.items (said_from 0 (reading octets).items) next c.in_ok-push.ensures.items h.so_far;
    }

pub returns : goal.returns
unfolding said_items
returns c =
    let h = c.loop-item.invariant in
    let octets = c.args.message.now in
    SaidLemmas.all_said octets c.loop-item.at (said_from 0 (reading octets).items) c.loop-item.all.items (rw h.source at c.in_default.ensures.end) h.so_far
