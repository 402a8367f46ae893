use Rattle.std.proofs.Common.{length, ap, subst, arith}
use Rattle.multi_token.specs.Counted.{Counted}
use Rattle.multi_meaning.specs.Codes.{code_of}
use Rattle.multi_meaning.specs.Verdict.{IsVerdict, Refused}
use Rattle.multi_layout.proofs.PagesLemmas.{drawing_few}
use Rattle.multi_layout.specs.Limits.{plane_limit}
use Rattle.sign_font.specs.Defaults.{under}
use Rattle.sign_font.specs.Sign.{SignData}
use Rattle.sign_font.proofs.DefaultLemmas.{sound_under}
use Rattle.sign_control.proofs.CountLemmas.{judging_few}
use Rattle.sign_control.proofs.FrameLemmas.{not_refused}
use Rattle.sign_control.proofs.draw.draw_shown.Goals as goal

pub unreachable-requires : goal.unreachable-requires
unreachable-requires c =
    let sign = under c.args.sign.now c.args.defaults in
    let offence = c.in_default.field-0 in
    let given = ap (λ (s : Counted). s.octets) c.counted-source.ensures in
    let refused = subst (λ (s : SignData). IsVerdict s c.counted-source.result.octets (Refused (code_of offence.error) offence.at)) c.with-judge.ensures c.in_default.ensures.refused in
    not_refused sign c.args.text.now c.counted-source.result.octets (code_of offence.error) offence.at c.requires.accepted given refused

pub overflow_add-result : goal.overflow_add-result
overflow_add-result c =
    let sign = under c.args.sign.now c.args.defaults in
    let octets = c.counted-source.result.octets in
    let given = ap (λ (s : Counted). length s.octets) c.counted-source.ensures in
    let limit = ap (λ (s : SignData). plane_limit s (length octets)) c.with-judge.ensures in
    let limit' = ap (λ n. plane_limit sign n) given in
    omega (
      arith,
      drawing_few sign (length c.args.text.now) (sound_under c.args.sign.now c.args.defaults c.requires.sound c.requires.taken) (omega (arith, c.requires.short)),
      c.requires.short,
      given,
      judging_few c.with-judge.result octets,
      c.in-Ok.ensures.most,
      c.in-Ok.ensures.plane_steps,
      limit,
      limit',
      c.steps.ensures,
      c.steps-2.ensures,
      c.steps-before.ensures,
    )
