use Rattle.std.proofs.Common.{◌+◌}
use Rattle.std.proofs.lemmas.List.{take_rest}
use Rattle.font_bdf.proofs.WordLemmas.{after_at, before_at}
use Rattle.font_bdf.proofs.character.parted_at.Goals as goal

pub returns-in-Some-clause-before : goal.returns-in-Some-clause-before
returns-in-Some-clause-before c = before_at c.args.word.now c.args.lines.now c.in-Some.place c.in-Some.ensures

pub returns-in-Some-clause-after : goal.returns-in-Some-clause-after
returns-in-Some-clause-after c = rw (take_rest c.args.lines.now (c.in-Some.place + 1)) (after_at c.args.word.now c.args.lines.now c.in-Some.place c.in-Some.ensures)
