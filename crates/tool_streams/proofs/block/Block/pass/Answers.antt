use Rattle.std.proofs.Common.{length, subst, ◌∙◌, ap, sym, ◌≤◌, drop}
use Rattle.tool_streams.proofs.BlockLemmas
use Rattle.tool_streams.proofs.block.Block.pass.Goals as goal

pub returns : goal.returns
returns c =
    BlockLemmas.passed c.self.inside.octets c.self.inside.start c.self.inside.end c.args.count (subst (λ l. c.args.count ≤ length l) (sym c.self.view_is) c.requires)
    ∙ ap (drop c.args.count) c.self.view_is
