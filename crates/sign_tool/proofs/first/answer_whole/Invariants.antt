use Rattle.std.proofs.Common.{◌≡◌, [], ◌-◌, ◌≤◌, ◌<◌, length, take, drop}
use Rattle.sign_tool.specs.internal.Blocks.{AnswersLines}
use Rattle.tool_streams.specs.Lines.{IsOneLine}
use Rattle.sign_tool.proofs.first.answer_whole.Given as goal

abbrev pub invariant-loop-last : goal.invariant-loop-last
invariant-loop-last g l =
    AnswersLines (g.A.Answer.answers l.fn.answer) (g.A.Answer.answers l.answer) l.fn.octets l.fn.ready.whole l.ready.whole l.at l.lines
    × (l.seen ≤ length (drop l.at l.fn.octets)) × IsOneLine (take l.seen (drop l.at l.fn.octets)) × (l.ready.begun ≡ []) × (length l.ready.whole < 98304)

abbrev pub decreases-loop-last : goal.decreases-loop-last
decreases-loop-last g l = length l.fn.octets - l.at
