use Rattle.std.proofs.Common.{◌≤◌, length}
use Rattle.std.specs.Io.KnownBytes.{Consumes}
use Rattle.tool_streams.specs.Lines.{input_limit}
use Rattle.tool_streams.proofs.whole.read_whole.Given as goal

abbrev pub invariant-loop-reads : goal.invariant-loop-reads
invariant-loop-reads g l = Consumes (g.R.Read.remaining l.fn.reader) (g.R.Read.remaining l.reader) l.octets.items × (l.reads ≤ length l.octets.items) × (length l.octets.items ≤ input_limit)
