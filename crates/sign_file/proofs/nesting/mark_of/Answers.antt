use Rattle.std.proofs.Common.{arith}
use Rattle.sign_file.proofs.NestingLemmas.{skip_blank-shorter}
use Rattle.sign_file.proofs.nesting.mark_of.Goals as goal

pub returns-in-35-clause-shorter : goal.returns-in-35-clause-shorter
returns-in-35-clause-shorter c = rw c.skip_blank.ensures.rest (skip_blank-shorter c.args.text.now (grind arith))
