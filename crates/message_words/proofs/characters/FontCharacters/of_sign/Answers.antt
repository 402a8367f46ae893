use Rattle.std.proofs.Common.{◌≡◌, ◌+◌, ◌∙◌, sym, subst, arith}
use Rattle.sign_font.specs.Sign.{font_numbered}
use Rattle.message_words.specs.Characters.{AreCharacters}
use Rattle.message_words.proofs.CharacterLemmas
use Rattle.message_words.proofs.characters.FontCharacters.of_sign.Goals.{then-is_some+in_ok-add_font, else-is_some}
use Rattle.message_words.proofs.characters.FontCharacters.of_sign.Goals as goal

pub loop-last-preserved : goal.loop-last-preserved
loop-last-preserved c =
    let sign = c.args.sign.now in
    let number = c.loop-last.last + 1 in
    let old = c.loop-last.fonts.items in
    let there = CharacterLemmas.there_of _ (font_numbered sign number) c.font.result c.is_some.result c.font.ensures.font (sym c.is_some.ensures) in
    elim c.if-is_some.branch [
      | then-is_some+in_ok-add_font w ↦ rw w.fonts-is (CharacterLemmas.font_more sign number old w.add_font.new.fonts.items c.loop-last.invariant (omega arith) w.in_ok-add_font.ensures (there ∙ w.if-is_some.true))
      | else-is_some w ↦ rw w.fonts-is (CharacterLemmas.font_lacks sign number old c.loop-last.invariant (omega arith) (there ∙ w.if-is_some.false))
    ]

pub returns : goal.returns
returns c =
    let end : c.loop-last.last ≡ 255 = omega (arith, c.loop-last-test.false, c.loop-last.auto.last-end) in
    subst (λ n. AreCharacters c.args.sign.now (n + 1) c.loop-last.fonts.items) end c.loop-last.invariant
