use Rattle.std.proofs.Common.{length}
use Rattle.message_words.proofs.warnings.Reading.read.Given as goal

abbrev pub decreases-loop-rest : goal.decreases-loop-rest
decreases-loop-rest l = length l.rest
