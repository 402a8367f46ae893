use Rattle.std.proofs.Common.{◌+◌}
use Rattle.message_words.specs.Characters.{AreCharacters}
use Rattle.message_words.proofs.characters.FontCharacters.of_sign.Given as goal

abbrev pub invariant-loop-last : goal.invariant-loop-last
invariant-loop-last l = AreCharacters l.sign (l.last + 1) l.fonts.items
