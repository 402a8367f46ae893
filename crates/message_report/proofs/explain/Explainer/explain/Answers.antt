use Rattle.std.proofs.Common.{◌≤◌, [], length, refl, sym, ap, ◌∙◌, arith, subst}
use Rattle.multi_token.specs.Counted.{Counted}
use Rattle.multi_meaning.specs.Meaning.{meanings}
use Rattle.multi_meaning.specs.Verdict.{Accepted, IsVerdict, Refused, pages_of}
use Rattle.message_cures.specs.Cures.{Mends}
use Rattle.message_cures.specs.Taking.{takes}
use Rattle.message_cures.specs.declared.mending.Outcome.TheVariants as outcomes
use Rattle.message_report.specs.Explained.{ExplainerData}
use Rattle.message_report.specs.Explanation.{Explains}
use Rattle.message_cures.proofs.TakingLemmas
use Rattle.message_report.proofs.ExplanationLemmas
use Rattle.message_report.proofs.explain.Explainer.explain.Goals as goal

pub returns-then-message-gt-MAX_MESSAGE-clause-told :
    goal.returns-then-message-gt-MAX_MESSAGE-clause-told
returns-then-message-gt-MAX_MESSAGE-clause-told c =
    let (told, is, tells) = c.in_ok-push_unjudged.ensures in
    (told, is, ExplanationLemmas.unjudged c.args.telling c.args.self.now.sign c.args.self.now.most c.args.name.now c.args.message.now c.args.line c.not_taken.result told (omega (arith, c.if-message-gt-MAX_MESSAGE.true)) c.not_taken.ensures.proposal c.not_taken.ensures.warnings tells)

pub returns-then-message-gt-MAX_MESSAGE-clause-taken :
    goal.returns-then-message-gt-MAX_MESSAGE-clause-taken
returns-then-message-gt-MAX_MESSAGE-clause-taken c =
    c.not_taken.ensures.refused
    ∙ TakingLemmas.not_taken c.args.self.now.sign c.args.message.now (omega (arith, c.if-message-gt-MAX_MESSAGE.true))

pub returns-in_ok-push_accepted-in-Ok-clause-told :
    goal.returns-in_ok-push_accepted-in-Ok-clause-told
returns-in_ok-push_accepted-in-Ok-clause-told c =
    let sign = c.self.inside.sign in
    let message = c.args.message.now in
    let octets = c.in-Ok.checked.source.octets in
    let short : length message ≤ 4096 = omega (arith, c.if-message-gt-MAX_MESSAGE.false) in
    let given = ap (λ (s : Counted). s.octets) c.new.ensures in
    let same = c.in-Ok.ensures.kept.1 ∙ given in
    let (pages, accepted) = c.in-Ok.ensures.accepted in
    let on_message : IsVerdict sign message (Accepted pages) = subst (λ l. IsVerdict sign l (Accepted pages)) given accepted in
    let count = ExplanationLemmas.pages_are sign message pages on_message (omega (arith, short)) ∙ ap (λ l. pages_of (meanings l)) (sym same) in
    let (told, is, tells) = c.in_ok-push_accepted-in-Ok.ensures in
    let counted : IsVerdict sign message (Accepted (pages_of (meanings octets))) = subst (λ n. IsVerdict sign message (Accepted n)) count on_message in
    let on_octets = subst (λ l. IsVerdict sign l (Accepted (pages_of (meanings octets)))) (sym same) counted in
    let taken : Mends sign message outcomes.Taken = sym (TakingLemmas.taken_by sign _ message (Accepted pages) short given accepted) in (
      told,
      is,
      subst (λ (d : ExplainerData). Explains c.args.telling d.sign d.most c.args.name.now c.args.line message c.taken.result told) c.self.view_is
          (ExplanationLemmas.explained c.args.telling sign c.self.inside.max_string c.args.name.now octets message c.args.line _ outcomes.Taken _ c.taken.result told short same on_octets taken c.taken.ensures.proposal c.in_ok-found-in-Ok.ensures c.taken.ensures.warnings tells),
    )

pub returns-in_ok-push_accepted-in-Ok-clause-taken :
    goal.returns-in_ok-push_accepted-in-Ok-clause-taken
returns-in_ok-push_accepted-in-Ok-clause-taken c =
    let (pages, accepted) = c.in-Ok.ensures.accepted in
    c.taken.ensures.taken
    ∙ TakingLemmas.taken_by c.self.inside.sign _ c.args.message.now (Accepted pages) (omega (arith, c.if-message-gt-MAX_MESSAGE.false)) (ap (λ (s : Counted). s.octets) c.new.ensures) accepted
    ∙ ap (λ (d : ExplainerData). takes d.sign c.args.message.now) c.self.view_is

pub returns-in_ok-push_fault-in-Err-clause-told :
    goal.returns-in_ok-push_fault-in-Err-clause-told
returns-in_ok-push_fault-in-Err-clause-told c =
    let sign = c.args.self.now.sign in
    let message = c.args.message.now in
    let fault = c.in-Err.fault in
    let outcome = c.in_ok-outcome-in-Err.field-0.outcome in
    let given = ap (λ (s : Counted). s.octets) c.new.ensures in
    let on_message : IsVerdict c.self.inside.sign message (Refused fault.code fault.at) = subst (λ l. IsVerdict c.self.inside.sign l (Refused fault.code fault.at)) given c.in-Err.ensures.refused in
    let on_sign : IsVerdict sign message (Refused fault.code fault.at) = subst (λ (d : ExplainerData). IsVerdict d.sign message (Refused fault.code fault.at)) c.self.view_is on_message in
    let mends : Mends sign message outcome = subst (λ (d : ExplainerData). Mends d.sign message outcome) c.self.view_is c.in_ok-outcome-in-Err.ensures.mends in
    let keeps = c.not_taken-in-Err.ensures.proposal ∙ c.kind_of.ensures in
    let (told, is, tells) = c.in_ok-push_fault-in-Err.ensures in
    (told, is, ExplanationLemmas.explained c.args.telling sign c.args.self.now.most c.args.name.now message message c.args.line _ outcome [] c.not_taken-in-Err.result told (omega (arith, c.if-message-gt-MAX_MESSAGE.false)) refl on_sign mends keeps refl c.not_taken-in-Err.ensures.warnings tells)

pub returns-in_ok-push_fault-in-Err-clause-taken :
    goal.returns-in_ok-push_fault-in-Err-clause-taken
returns-in_ok-push_fault-in-Err-clause-taken c =
    c.not_taken-in-Err.ensures.refused
    ∙ TakingLemmas.taken_by c.self.inside.sign _ c.args.message.now (Refused c.in-Err.fault.code c.in-Err.fault.at) (omega (arith, c.if-message-gt-MAX_MESSAGE.false)) (ap (λ (s : Counted). s.octets) c.new.ensures) c.in-Err.ensures.refused
    ∙ ap (λ (d : ExplainerData). takes d.sign c.args.message.now) c.self.view_is
