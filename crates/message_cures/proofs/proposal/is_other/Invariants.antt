use Rattle.std.proofs.Common.{◌≢◌, All, take}
use Rattle.message_cures.proofs.proposal.is_other.Given as goal

abbrev pub invariant-loop-proposal : goal.invariant-loop-proposal
invariant-loop-proposal l = All (λ proposal. l.text ≢ proposal.text.items) (take l.proposal-index l.proposals)
