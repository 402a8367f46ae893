use Rattle.std.proofs.Common.{◌≡◌, ℕ, List, [], ◌+◌, ◌*◌, ◌-◌, ◌<◌, length}
use Rattle.sign_tool.proofs.AnsweringLemmas.{Answering}
use Rattle.sign_tool.proofs.tool.answer_lines.Given as goal

abbrev pub invariant-loop-front : goal.invariant-loop-front
invariant-loop-front g l =
    (taken : List ℕ) × (gone : List ℕ) × (lines : List (List ℕ))
    × Answering l.fn.place.number l.fn.place.left (g.A.Answer.answers l.fn.answer) (g.A.Answer.answers l.answer) (g.R.Read.remaining l.fn.reader) (g.R.Read.remaining l.reader)
    (g.W.Write.contents l.fn.writer) (g.W.Write.contents l.writer) l.block l.ready.whole l.place.number l.place.left l.seen taken gone lines
    × (l.ready.begun ≡ []) × (length l.ready.whole < 98304)

abbrev pub decreases-loop-front : goal.decreases-loop-front
decreases-loop-front g l = 2 * l.place.left + 1 - length l.block
