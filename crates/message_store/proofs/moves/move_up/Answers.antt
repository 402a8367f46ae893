use Rattle.std.proofs.Common.{◌+◌, ◌-◌, ◌≤◌, length, arith}
use Rattle.message_store.proofs.MoveLemmas.{moved-up}
use Rattle.message_store.proofs.moves.move_up.Goals as goal

pub loop-moved-preserved : goal.loop-moved-preserved
loop-moved-preserved c =
    let loop = c.loop-moved in
    let all = loop.moved + 4096 in
    let below : all ≤ c.args.len = omega (arith, c.loop-moved-test.true, loop.invariant.0) in
    let within : c.args.from + all ≤ length c.args.memory.now = omega (arith, c.requires.within, below) in (
      below,
      moved-up c.args.memory.now loop.memory c.move_part.new.memory c.args.from c.args.to loop.moved 4096 all c.requires.before within (omega arith) loop.invariant.1 c.move_part.ensures,
    )

pub returns : goal.returns
returns c =
    let loop = c.loop-moved in
    let n = c.args.len - loop.moved in
    moved-up c.args.memory.now loop.memory c.move_part-2.new.memory c.args.from c.args.to loop.moved n c.args.len c.requires.before c.requires.within
    (omega (arith, loop.invariant.0)) loop.invariant.1 c.move_part-2.ensures
