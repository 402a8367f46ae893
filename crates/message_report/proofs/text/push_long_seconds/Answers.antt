use Rattle.std.proofs.Common.{◌∷◌, [], arith, codes, refl}
use Rattle.message_report.specs.Words.{GrowsInLine}
use Rattle.message_report.proofs.ExplanationLemmas.{feedless, in_line_more, number_in_line}
use Rattle.message_report.proofs.text.push_long_seconds.Goals as goal

pub returns : goal.returns
returns c =
    let first : GrowsInLine c.args.text.now c.push_number.new.text = (_, number_in_line _ (omega arith), c.in_ok-push_number.ensures) in
    let second = in_line_more _ _ _ (46 ∷ []) first (feedless (46 ∷ []) refl) c.in_ok-push_octet.ensures in
    let third = in_line_more _ _ _ _ second (number_in_line _ (omega arith)) c.in_ok-push_number-2.ensures in
    in_line_more _ _ _ (codes " seconds") third (feedless (codes " seconds") refl) c.in_ok-push_octets.ensures
