use Rattle.multi_judge.proofs.Lemmas.{rules, info_number}
use Rattle.multi_judge.proofs.terms.Terms.new.Goals as goal

pub invariant_of-result : goal.invariant_of-result
invariant_of-result c = search (rules, info_number)
