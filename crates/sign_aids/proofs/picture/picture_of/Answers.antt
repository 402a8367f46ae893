use Rattle.std.proofs.Common.{ap, arith, refl, subst, sym}
use Rattle.multi_token.specs.Counted.{Counted}
use Rattle.multi_meaning.specs.Verdict.{Refused}
use Rattle.sign_aids.specs.Pictures.{IsFaultOf}
use Rattle.sign_aids.proofs.PictureLemmas
use Rattle.sign_aids.proofs.picture.picture_of.Goals as goal

pub returns-in-Err-clause-fault : goal.returns-in-Err-clause-fault
returns-in-Err-clause-fault c =
    PictureLemmas.verdict_is c.args.sign.now c.args.message.now _ (Refused c.in-Err.fault.code c.in-Err.fault.at) (ap (λ (s : Counted). s.octets) c.new.ensures) c.in-Err.ensures.refused

pub returns-in-Ok-draw_message-clause-drawn : goal.returns-in-Ok-draw_message-clause-drawn
returns-in-Ok-draw_message-clause-drawn c =
    let same = ap (λ (s : Counted). s.octets) c.new.ensures in
    let accepted = c.in-Ok.ensures.accepted in
    PictureLemmas.picture_of c.args.side c.args.sign.now c.args.sign.now _ c.args.message.now accepted.0 c.args.view c.in-Ok-draw_message.file.items
    refl same (omega (arith, c.if-message-gt-MAX_STRING.false)) accepted.1 c.in-Ok-draw_message.ensures.drawn

pub returns-in-Err-draw_message-clause-fault : goal.returns-in-Err-draw_message-clause-fault
returns-in-Err-draw_message-clause-fault c =
    let same = ap (λ (s : Counted). s.octets) c.new.ensures in
    let accepted = c.in-Ok.ensures.accepted in
    subst (IsFaultOf c.args.side c.args.sign.now c.args.message.now c.args.view) (sym c.picture_fault.ensures)
    (PictureLemmas.no_picture c.args.side c.args.sign.now c.args.sign.now _ c.args.message.now accepted.0 c.args.view c.in-Err-draw_message.fault refl same accepted.1 c.in-Err-draw_message.ensures.fault)
