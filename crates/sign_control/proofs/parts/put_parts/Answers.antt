use Rattle.std.proofs.Common.{◌+◌, ◌++◌, ◌∙◌, ap, refl, arith}
use Rattle.saved_octets.specs.Field.{placed}
use Rattle.sign_control.specs.Saved.{defaults_octets, end_octets, registers_octets, shown_octets}
use Rattle.sign_control.proofs.SavedLemmas.{put_part}
use Rattle.sign_control.proofs.parts.put_parts.Goals as goal

pub returns-clause-put : goal.returns-clause-put
returns-clause-put c =
    let p = c.args.parts.now in
    let old = c.args.buffer.now in
    let at = c.args.at in
    let one = defaults_octets p.defaults in
    let two = one ++ end_octets p.end in
    let three = two ++ registers_octets p.registers in
    let four = three ++ shown_octets p.display in
    let first = c.put.ensures.put ∙ ap (placed old at) c.defaults_octets.ensures in
    let second = put_part old c.put.new.buffer c.put-2.new.buffer one c.end_octets.result (end_octets p.end) at (at + 9) first refl c.end_octets.ensures.octets (omega (arith, c.requires.room)) c.put-2.ensures.put in
    let third = put_part old c.put-2.new.buffer c.put-3.new.buffer two c.registers_octets.result (registers_octets p.registers) at (at + 14) second refl c.registers_octets.ensures.octets (omega (arith, c.requires.room)) c.put-3.ensures.put in
    let fourth = put_part old c.put-3.new.buffer c.put-4.new.buffer three c.shown_octets.result (shown_octets p.display) at (at + 19) third refl c.shown_octets.ensures.octets (omega (arith, c.requires.room)) c.put-4.ensures.put in
    put_part old c.put-4.new.buffer c.put-5.new.buffer four c.defaults_octets-2.result (defaults_octets p.display.defaults) at (at + 44) fourth refl c.defaults_octets-2.ensures (omega (arith, c.requires.room)) c.put-5.ensures.put
