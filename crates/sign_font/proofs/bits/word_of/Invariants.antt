use Rattle.sign_font.specs.internal.Rows.{IsWordOf}
use Rattle.sign_font.proofs.bits.word_of.Given as goal

abbrev pub invariant-loop-column : goal.invariant-loop-column
invariant-loop-column l = IsWordOf l.octets l.first l.column l.word
