use Rattle.std.proofs.Common.{◌≡◌, take}
use Rattle.message_words.specs.OnLines.{ended_texts, text_after}
use Rattle.message_words.proofs.lines.line_texts.Given as goal

abbrev pub invariant-loop-one : goal.invariant-loop-one
invariant-loop-one l = record {
  ended : l.lines.items ≡ ended_texts l.defaults (take l.one-index l.said);
  here_is : l.here ≡ text_after l.defaults (take l.one-index l.said);
}
