use Rattle.std.proofs.Common.{◌≢◌, ◌≤◌, All, arith, ap, ◌∙◌, length, subst}
use Rattle.std.proofs.lemmas.List.{take_all}
use Rattle.message_cures.specs.declared.proposal.Proposal.{Proposal}
use Rattle.message_cures.proofs.ProposalLemmas
use Rattle.message_cures.proofs.proposal.is_other.Goals as goal

pub loop-proposal-preserved : goal.loop-proposal-preserved
loop-proposal-preserved c =
    let is = c.deref.ensures.value ∙ ap (λ (p : Proposal). p.text.items) c.proposal-item.is in
    let other : c.args.text.now ≢ c.deref.result.now = ProposalLemmas.differ c.deref.result.now c.args.text.now c.if-eq-2.ensures in
    ProposalLemmas.other_more c.args.text.now c.args.proposals.now c.loop-proposal.proposal-index c.proposal-item.result c.loop-proposal-test.true c.loop-proposal.invariant (subst (λ l. c.args.text.now ≢ l) is other)

pub returns-clause-others : goal.returns-clause-others
returns-clause-others c =
    let past : length c.args.proposals.now ≤ c.loop-proposal.proposal-index = omega (arith, c.loop-proposal-test.false) in
    λ _. subst (All (λ (p : Proposal). c.args.text.now ≢ p.text.items)) (take_all c.loop-proposal.proposal-index c.args.proposals.now past) c.loop-proposal.invariant
