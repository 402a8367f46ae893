use Rattle.std.proofs.Common.{arith, subst, sym, ◌∙◌}
use Rattle.std.proofs.lemmas.List.{take_all}
use Rattle.std.proofs.lemmas.Result.{err_from_is_err_and}
use Rattle.tool_streams.specs.Lines.{IsOneLine}
use Rattle.tool_streams.proofs.BlockLemmas
use Rattle.tool_streams.proofs.refill.read_on.Goals as goal

pub returns-then-held-left : goal.returns-then-held-left
returns-then-held-left g c = record { on = BlockLemmas.held_past _ c.args.block.now c.args.place.number c.args.place.left c.requires.one (omega arith) c.requires.most; unfinished = tt }

pub end_of_long-requires-clause-one : goal.end_of_long-requires-clause-one
end_of_long-requires-clause-one g c =
    subst IsOneLine (take_all c.args.place.left c.args.block.now (omega arith) ∙ sym (take_all _ c.args.block.now (omega arith)) ∙ sym c.first.ensures) c.requires.one

pub returns-in_err-count : goal.returns-in_err-count
returns-in_err-count g c =
    let p = err_from_is_err_and c.from_residual.result c.from_residual.ensures.1 in
    let one = subst IsOneLine (take_all c.args.place.left c.args.block.now (omega arith)) c.requires.one in
    rw (p.1, p.2) (record { on = BlockLemmas.held_failing _ _ c.args.block.now c.args.place.number c.args.place.left _ one (omega arith) c.in_err-count.ensures.reads; unfinished = BlockLemmas.holds_reading _ _ _ _ _ c.in_err-count.ensures.reads.0 })

pub returns-then-held-gt0 : goal.returns-then-held-gt0
returns-then-held-gt0 g c =
    let one = subst IsOneLine (take_all c.args.place.left c.args.block.now (omega arith)) c.requires.one in
    let (more, took, is, size, few, end) = c.in_ok-count.ensures.reads in
    record { on = BlockLemmas.held_last _ _ c.args.block.now more c.args.place.number c.args.place.left _ one (omega arith) (omega arith) (omega arith) size took (end (omega arith)); unfinished = BlockLemmas.holds_last _ _ c.args.block.now _ more c.args.place.number c.args.place.left _ one (omega arith) (omega arith) (omega arith) size took (end (omega arith)) is }
