use Rattle.std.proofs.Common.{sym, ◌∙◌}
use Rattle.font_bdf.proofs.ListedLemmas.{named_there, position_named}
use Rattle.font_bdf.proofs.listed.row_with.Goals as goal

pub returns-in-Some-clause-place : goal.returns-in-Some-clause-place
returns-in-Some-clause-place c = c.in-Some.ensures ∙ sym (position_named c.args.name.now c.args.rows.now)

pub returns-in-Some-clause-there : goal.returns-in-Some-clause-there
returns-in-Some-clause-there c = named_there c.args.name.now c.args.rows.now c.in-Some.place (c.in-Some.ensures ∙ sym (position_named c.args.name.now c.args.rows.now))

pub returns-in-None-clause-place : goal.returns-in-None-clause-place
returns-in-None-clause-place c = c.in-None.ensures ∙ sym (position_named c.args.name.now c.args.rows.now)
