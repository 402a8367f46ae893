use Rattle.std.proofs.Common.{◌≢◌, ◌<◌, All, arith, sym, length, refl, subst}
use Rattle.message_cures.specs.Cures.{AreFurther}
use Rattle.message_cures.specs.declared.proposal.Proposal.{Proposal}
use Rattle.message_cures.proofs.ProposalLemmas
use Rattle.message_cures.proofs.proposal.offer.Goals as goal

pub returns-in_ok-push : goal.returns-in_ok-push
returns-in_ok-push c =
    let sign = c.args.judge.now in
    let text = c.args.text.now in
    let first = c.args.first.now in
    let other = c.args.other.items in
    let proposals = c.args.proposals.now.items in
    let next : Proposal = record { text = c.args.other; kind = c.args.kind } in
    let room : length proposals < 2 = omega (arith, c.len.ensures, c.if-len-lt-MOST_FURTHER.true) in
    let same = c.deref-then-len-lt-MOST_FURTHER.ensures.value in
    let one : other ≢ first = subst (λ l. l ≢ first) same (c.if-is_other.ensures.first refl) in
    let all : All (λ (p : Proposal). other ≢ p.text.items) proposals = subst (λ l. All (λ (p : Proposal). l ≢ p.text.items) proposals) same (subst (λ ps. All (λ (p : Proposal). c.deref-then-len-lt-MOST_FURTHER.result.now ≢ p.text.items) ps) c.deref.ensures.value (c.if-is_other.ensures.others refl)) in
    subst (AreFurther sign text first) (sym c.in_ok-push.ensures.items) (ProposalLemmas.more_further sign text first proposals next c.requires.so_far room (c.requires.taken, c.requires.kind) one all)
