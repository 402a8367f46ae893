use Rattle.std.proofs.Common.{◌∙◌, sym}
use Rattle.sign_font.specs.declared.parts.FontPart.{FontPart}
use Rattle.sign_font.proofs.RisingLemmas.{rising_more, rising_stops}
use Rattle.sign_font.proofs.limits.are_fonts_rising.Goals as goal

pub loop-font-preserved : goal.loop-font-preserved
loop-font-preserved c =
    let at = c.loop-font in
    at.invariant ∙ rising_more (λ (x : FontPart). x.number) c.args.fonts.now at.font-index at.last c.font-item.result c.loop-font-test.true c.font-item.is c.if-font-last.false

pub returns-then-font-last : goal.returns-then-font-last
returns-then-font-last c =
    let at = c.loop-font in
    sym (at.invariant ∙ rising_stops (λ (x : FontPart). x.number) c.args.fonts.now at.font-index at.last c.font-item.result c.loop-font-test.true c.font-item.is c.if-font-last.true)
