use Rattle.std.proofs.Common.{arith}
use Rattle.sign_font.specs.Defaults.{under}
use Rattle.sign_control.proofs.CountLemmas.{judging_few}
use Rattle.sign_control.proofs.restore.sign_fault.Goals as goal

pub returns-then-judged-clause-limit : goal.returns-then-judged-clause-limit
returns-then-judged-clause-limit c =
    omega (arith, c.judge_text-judged.ensures.steps, judging_few (under c.args.sign.now c.args.parts.now.display.defaults) c.args.text.now, c.requires.short)

pub returns-else-judged-clause-limit : goal.returns-else-judged-clause-limit
returns-else-judged-clause-limit c =
    omega (arith, c.judge_text-judged.ensures.steps, judging_few (under c.args.sign.now c.args.parts.now.display.defaults) c.args.text.now, c.requires.short)
