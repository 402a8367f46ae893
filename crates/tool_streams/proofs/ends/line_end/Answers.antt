use Rattle.std.proofs.Common.{arith, sym, ◌∙◌}
use Rattle.std.proofs.lemmas.List.{take_rest}
use Rattle.tool_streams.proofs.BlockLemmas
use Rattle.tool_streams.proofs.ends.line_end.Goals as goal

pub overflow_add-result : goal.overflow_add-result
overflow_add-result c =
    let (first, feed) = BlockLemmas.first_feed _ c.in-Some.end _ (sym c.memchr_iter.ensures.value ∙ c.in-Some.ensures.steps) in
    omega (arith, first.high)

pub returns-in-Some : goal.returns-in-Some
returns-in-Some c =
    let (first, feed) = BlockLemmas.first_feed _ c.in-Some.end _ (sym c.memchr_iter.ensures.value ∙ c.in-Some.ensures.steps) in
    BlockLemmas.found c.args.octets.now _ c.args.seen (take_rest c.args.octets.now c.args.seen) c.requires.seen c.requires.none c.in-Some.end first feed

pub returns-in-None : goal.returns-in-None
returns-in-None c =
    BlockLemmas.found_none c.args.octets.now _ c.args.seen (take_rest c.args.octets.now c.args.seen) c.requires.seen c.requires.none (BlockLemmas.no_feed _ (sym c.memchr_iter.ensures.value ∙ c.in-None.ensures.steps.0))
