use Rattle.std.proofs.Common.{arith, ◌-◌, length}
use Rattle.tool_streams.proofs.BlockLemmas
use Rattle.tool_streams.proofs.refill.end_of_long.Goals as goal

pub returns-in-Ok-Line : goal.returns-in-Ok-Line
returns-in-Ok-Line g c = record { ends = BlockLemmas.ends_at_line _ _ c.args.held.now c.next_line.new.line.items c.args.place.number c.args.place.left (c.args.place.left - length c.args.held.now) c.next_line.new.left c.requires.one c.requires.long (omega (arith, c.requires.most)) (rw c.in-Ok-Line.field-0-is at c.in-Ok-Line.ensures.taken); unfinished = tt }

pub returns-in-Ok-TooLong : goal.returns-in-Ok-TooLong
returns-in-Ok-TooLong g c = record { ends = BlockLemmas.ends_at_long _ _ c.args.held.now c.next_line.new.line.items c.args.place.number c.args.place.left (c.args.place.left - length c.args.held.now) c.next_line.new.left c.requires.one c.requires.long (omega (arith, c.requires.most)) (rw c.in-Ok-TooLong.field-0-is at c.in-Ok-TooLong.ensures.taken); unfinished = tt }

pub returns-in-Ok-Unfinished : goal.returns-in-Ok-Unfinished
returns-in-Ok-Unfinished g c = record { ends = BlockLemmas.ends_unfinished _ _ c.args.held.now c.next_line.new.line.items c.args.place.number c.args.place.left (c.args.place.left - length c.args.held.now) c.next_line.new.left c.requires.one c.requires.long (omega (arith, c.requires.most)) (rw c.in-Ok-Unfinished.field-0-is at c.in-Ok-Unfinished.ensures.taken); unfinished = BlockLemmas.holds_unfinished _ _ c.args.held.now c.next_line.new.line.items c.args.place.number c.args.place.left (c.args.place.left - length c.args.held.now) c.next_line.new.left c.requires.one c.requires.long (omega (arith, c.requires.most)) (rw c.in-Ok-Unfinished.field-0-is at c.in-Ok-Unfinished.ensures.taken) }

pub returns-in-Ok-InputTooLong : goal.returns-in-Ok-InputTooLong
returns-in-Ok-InputTooLong g c = record { ends = BlockLemmas.ends_past _ _ c.args.held.now c.next_line.new.line.items c.args.place.number c.args.place.left (c.args.place.left - length c.args.held.now) c.next_line.new.left c.requires.one c.requires.long (omega (arith, c.requires.most)) (rw c.in-Ok-InputTooLong.field-0-is at c.in-Ok-InputTooLong.ensures.taken); unfinished = tt }

pub returns : goal.returns
returns g c = record { ends = BlockLemmas.ends_failing _ _ c.args.held.now c.next_line.new.line.items c.args.place.number c.args.place.left (c.args.place.left - length c.args.held.now) c.next_line.new.left c.requires.one c.requires.long (omega (arith, c.requires.most)) _ c.in-Err.ensures.taken; unfinished = BlockLemmas.holds_failing _ _ c.args.held.now c.next_line.new.line.items c.args.place.number c.args.place.left (c.args.place.left - length c.args.held.now) c.next_line.new.left c.requires.one c.requires.long (omega (arith, c.requires.most)) _ c.in-Err.ensures.taken }
