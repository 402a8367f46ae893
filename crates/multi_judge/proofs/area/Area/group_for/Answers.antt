use Rattle.multi_judge.proofs.Lemmas.{arith, rules, page_number, group_of_later}
use Rattle.multi_judge.proofs.area.Area.group_for.Goals as goal

pub returns-else-number-self : goal.returns-else-number-self
returns-else-number-self c = record {
  sum = λ area e order.
      group_of_later area c.args.self.now e (page_number c.args.page_just) (omega (arith, order, c.number.ensures.number, c.if-number-self.false)) c.default.result (search rules);
}
