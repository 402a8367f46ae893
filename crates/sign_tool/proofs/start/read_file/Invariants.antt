use Rattle.std.proofs.Common.{List, ℕ}
use Rattle.sign_tool.proofs.FileLemmas.{Reading}
use Rattle.sign_tool.proofs.start.read_file.Given as goal

abbrev pub invariant-loop-line : goal.invariant-loop-line
invariant-loop-line g l =
    (lines : List (List ℕ)) × Reading (g.R.Read.remaining l.fn.reader) (g.R.Read.remaining l.reader) l.place.number l.place.left l.octets.items lines

abbrev pub decreases-loop-line : goal.decreases-loop-line
decreases-loop-line g l = l.place.left
