use Rattle.multi_judge.proofs.Lemmas.{Attributes, rules, subst, state-start, IsSmall}
use Rattle.multi_judge.proofs.state.State.new.Goals as goal

pub returns-clause-start : goal.returns-clause-start
returns-clause-start c =
    let small = subst (λ (a : Attributes). IsSmall a.rectangle) c.sign.invariant.3 c.sign.invariant.4 in
    rw (c.sign.invariant.3, ← c.sign.view_is) (state-start _ c.sign.inside.font c.default.result _ c.sign.invariant.1 (search rules) small)
