use Rattle.std.proofs.Common.{◌≡◌, ℕ, List}
use Rattle.tool_streams.proofs.SeenLemmas.{Seen}
use Rattle.tool_streams.proofs.lines.next_line.Given as goal

abbrev pub invariant-loop-taken : goal.invariant-loop-taken
invariant-loop-taken g l =
    ((seen : List ℕ) × Seen 8301 (g.R.Read.remaining l.fn.reader) (g.R.Read.remaining l.reader) l.line.items l.is_cut l.taken seen)
    × (l.left ≡ l.most)
