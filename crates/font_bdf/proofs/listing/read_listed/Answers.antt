use Rattle.std.proofs.Common.{arith}
use Rattle.std.proofs.lemmas.Grind.{common_steps}
use Rattle.font_bdf.specs.Listed.{rows_of}
use Rattle.font_bdf.proofs.listing.read_listed.Goals as goal

pub returns : goal.returns
unfolding rows_of
returns c = λ other. let none = c.in-Err.ensures (λ e. other (c.named.ensures e)) in grind (arith, common_steps, none)
