use Rattle.std.proofs.Common.{◌≡◌, ◌+◌, ◌-◌, ◌∷◌, drop, ap, subst, arith}
use Rattle.multi_token.specs.Counted.{Counted}
use Rattle.multi_token.specs.Reading.{reading}
use Rattle.multi_token.proofs.ReadingLemmas.{spelling_some}
use Rattle.multi_token.proofs.StepLemmas.{rises_then}
use Rattle.multi_token.specs.Tokens.{item_of}
use Rattle.multi_meaning.specs.Meaning.{meaning}
use Rattle.multi_layout.specs.Items.{IsSaid}
use Rattle.multi_layout.proofs.ItemLemmas
use Rattle.multi_layout.proofs.item.item_at.Goals as goal

pub returns-in-Ok-Some-clause-next : goal.returns-in-Ok-Some-clause-next
returns-in-Ok-Some-clause-next c =
    let octets = c.args.source.now.octets in
    let token = c.in-Ok-Some.token in
    let (here, is) = (rw c.in-Ok-Some.field-0-is at c.in-Ok-Some.ensures.token) in
    let same : c.next_token.new.source.octets ≡ octets = ap (λ (s : Counted). s.octets) (rw c.in-Ok-Some.field-0-is at c.in-Ok-Some.ensures.token_steps) in
    let some = spelling_some (item_of octets token) in
    let len = is.len in
    let within = is.within in
    record {
      item = item_of octets token;
      next = subst (λ n. (reading (drop n octets)).items ≡ item_of octets token ∷ (reading (drop (n + token.len) octets)).items) here (ItemLemmas.token_next octets token is);
      is = subst (λ l. IsSaid (meaning (item_of l token)) c.said_by.result) same c.said_by.ensures.said;
      len = len;
      some = omega (arith, some, len);
      within = omega (arith, within, here);
      room = is.room;
    }

pub returns-in-Ok-Some-clause-steps : goal.returns-in-Ok-Some-clause-steps
returns-in-Ok-Some-clause-steps c =
    let octets = c.args.source.now.octets in
    let token = c.in-Ok-Some.token in
    let (here, is) = (rw c.in-Ok-Some.field-0-is at c.in-Ok-Some.ensures.token) in
    let some = spelling_some (item_of octets token) in
    let len = is.len in
    let k = rises_then c.args.source.now c.next_token.new.source c.said_by.new.source token.len token.len 0 (token.len - 1) (token.len, omega arith, omega arith, (rw c.in-Ok-Some.field-0-is at c.in-Ok-Some.ensures.token_steps)) c.said_by.ensures.steps in
    (k.0, omega arith, omega (arith, k.2, some, len), k.3)

pub returns-in-Ok-None-clause-end : goal.returns-in-Ok-None-clause-end
returns-in-Ok-None-clause-end c = ItemLemmas.items_end c.args.source.now.octets c.args.at (rw c.in-Ok-None.field-0-is at c.in-Ok-None.ensures.end)

pub returns-in-Err-clause-end : goal.returns-in-Err-clause-end
returns-in-Err-clause-end c = ItemLemmas.items_none (drop c.args.at c.args.source.now.octets) c.in-Err.ensures.none_stands
