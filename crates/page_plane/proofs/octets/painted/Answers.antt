use Rattle.std.proofs.Common.{arith}
use Rattle.page_plane.proofs.BitLemmas.{painted_with}
use Rattle.page_plane.proofs.octets.painted.Goals as goal

pub returns : goal.returns
returns c = λ i h. rw c.ink.ensures (painted_with c.args.octet c.args.part c.args.on i (omega arith) h)
