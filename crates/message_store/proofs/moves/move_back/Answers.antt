use Rattle.std.proofs.Common.{◌+◌, ◌-◌, arith}
use Rattle.message_store.proofs.MoveLemmas.{moved-back}
use Rattle.message_store.proofs.moves.move_back.Goals as goal

pub loop-left-preserved : goal.loop-left-preserved
loop-left-preserved c =
    let loop = c.loop-left in
    let left = loop.left - 4096 in (
      omega (arith, loop.invariant.0),
      moved-back c.args.memory.now loop.memory c.move_part.new.memory c.args.from c.args.to (c.args.from + left) (c.args.to + left) left 4096 loop.left c.args.len
          c.requires.behind c.requires.within (omega arith) (omega arith) (omega (arith, c.loop-left-test.true)) loop.invariant.0 loop.invariant.1 c.move_part.ensures,
    )

pub returns : goal.returns
returns c =
    let loop = c.loop-left in
    moved-back c.args.memory.now loop.memory c.move_part-2.new.memory c.args.from c.args.to c.args.from c.args.to 0 loop.left loop.left c.args.len
    c.requires.behind c.requires.within (omega arith) (omega arith) (omega arith) loop.invariant.0 loop.invariant.1 c.move_part-2.ensures
