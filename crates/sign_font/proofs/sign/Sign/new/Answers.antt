use Rattle.std.proofs.Common.{◌∙◌, sym, arith}
use Rattle.sign_font.specs.Sign.{sign_of}
use Rattle.sign_font.proofs.FaultLemmas.{none_from_sound}
use Rattle.sign_font.proofs.SoundLemmas.{sound_made, sound_from_none}
use Rattle.sign_font.proofs.sign.Sign.new.Goals as goal

pub make_fonts-requires : goal.make_fonts-requires
make_fonts-requires c = (sound_from_none (sign_of c.args.parts) (sym c.first_fault.ensures ∙ c.in_default.is)).each

pub new-requires-clause-count : goal.new-requires-clause-count
new-requires-clause-count c =
    let count = (sound_from_none (sign_of c.args.parts) (sym c.first_fault.ensures ∙ c.in_default.is)).count.1 in
    rw c.in-Ok.ensures (omega arith)

pub new-requires-clause-rising : goal.new-requires-clause-rising
new-requires-clause-rising c = rw c.in-Ok.ensures ((sound_from_none (sign_of c.args.parts) (sym c.first_fault.ensures ∙ c.in_default.is)).rising)

pub invariant_of-result : goal.invariant_of-result
invariant_of-result c = sound_made (sign_of c.args.parts) c.new.result (sym c.first_fault.ensures ∙ c.in_default.is) (c.new.ensures ∙ c.in-Ok.ensures)

pub returns-clause-sound : goal.returns-clause-sound
returns-clause-sound c = sound_made (sign_of c.args.parts) c.new.result (sym c.first_fault.ensures ∙ c.in_default.is) (c.new.ensures ∙ c.in-Ok.ensures)

pub returns-in-Some-clause-within : goal.returns-in-Some-clause-within
returns-in-Some-clause-within c = none_from_sound (sign_of c.args.parts)
