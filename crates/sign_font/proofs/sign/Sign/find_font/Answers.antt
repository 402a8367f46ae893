use Rattle.std.proofs.Common.{◌==◌}
use Rattle.sign_font.specs.Sign.{FontData}
use Rattle.sign_font.specs.Sound.{IsSoundFont}
use Rattle.sign_font.proofs.SoundLemmas.{found_holds, lent_holds}
use Rattle.sign_font.proofs.sign.Sign.find_font.Goals as goal

pub returns-clause-within : goal.returns-clause-within
returns-clause-within c =
    let fonts = c.self.inside.fonts in
    lent_holds IsSoundFont c.find.result _ c.find.ensures (found_holds IsSoundFont (λ (font : FontData). font.number == c.args.number) fonts c.self.invariant.each)
