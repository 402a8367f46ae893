use Rattle.std.proofs.Common.{◌≡◌, ap, ℕ}
use Rattle.multi_token.specs.Counted.{Counted}
use Rattle.sign_font.specs.Defaults.{under}
use Rattle.multi_meaning.specs.Verdict.{Accepted, Refused, verdict}
use Rattle.message_store.specs.Judged.{error_of, is_accepted, position_of}
use Rattle.message_store.proofs.WorkLemmas.{verdict_is}
use Rattle.message_store.proofs.judge.judge_text.Goals as goal

accepted : (c : goal.After-steps) → (pages : ℕ) × (Accepted pages ≡ verdict (under c.args.sign.now c.args.defaults) c.args.text.now)
accepted c =
    let (pages, is) = c.in-Ok.ensures.accepted in
    (pages, verdict_is (under c.args.sign.now c.args.defaults) c.args.text.now _ (Accepted pages) (ap (λ (s : Counted). s.octets) c.new.ensures) is)

refused : (c : goal.After-steps-in-Err) → Refused c.in-Err.fault.code c.in-Err.fault.at ≡ verdict (under c.args.sign.now c.args.defaults) c.args.text.now
refused c =
    verdict_is (under c.args.sign.now c.args.defaults) c.args.text.now _ (Refused c.in-Err.fault.code c.in-Err.fault.at) (ap (λ (s : Counted). s.octets) c.new.ensures) c.in-Err.ensures.refused

pub returns-in-Ok-clause-accepted : goal.returns-in-Ok-clause-accepted
returns-in-Ok-clause-accepted c = ap is_accepted (accepted c).1

pub returns-in-Ok-clause-error : goal.returns-in-Ok-clause-error
returns-in-Ok-clause-error c = ap error_of (accepted c).1

pub returns-in-Ok-clause-position : goal.returns-in-Ok-clause-position
returns-in-Ok-clause-position c = ap position_of (accepted c).1

pub returns-in-Err-clause-accepted : goal.returns-in-Err-clause-accepted
returns-in-Err-clause-accepted c = ap is_accepted (refused c)

pub returns-in-Err-clause-error : goal.returns-in-Err-clause-error
returns-in-Err-clause-error c = ap error_of (refused c)

pub returns-in-Err-clause-position : goal.returns-in-Err-clause-position
returns-in-Err-clause-position c = ap position_of (refused c)
