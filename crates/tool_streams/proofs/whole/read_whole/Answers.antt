use Rattle.std.proofs.Common.{◌++◌, take, arith, length-append}
use Rattle.std.proofs.KnownBytes.{Consumes-trans}
use Rattle.std.proofs.lemmas.List.{length-take-le}
use Rattle.tool_streams.proofs.whole.read_whole.Goals as goal

pub returns-in_default-clause-fault : goal.returns-in_default-clause-fault
returns-in_default-clause-fault g c =
    let part = take c.in-Ok.count c.read.new.buf in
    (c.loop-reads.octets.items ++ part, Consumes-trans _ _ _ c.loop-reads.octets.items part c.loop-reads.invariant.0 c.in-Ok.ensures.bytes.0, omega (arith, length-append c.loop-reads.octets.items part, length-take-le c.in-Ok.count c.read.new.buf, c.in-Ok.ensures.bound, c.loop-reads.invariant), tt)
