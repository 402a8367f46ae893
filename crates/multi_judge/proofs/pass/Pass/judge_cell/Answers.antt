use Rattle.multi_judge.proofs.Lemmas.{◌==◌, not, refl, ap, sym, subst, ◌∙◌, Ok, Err, cell_in, spots, Pass, Shows, cell_found, cell_judged, line_here, page_here, placed_conflict, plain_put, shown, spot_of, is_false, is_true, judged_unfilled, cell_of_width, JudgesCell, PutsCell, rules, err_from_is_err_and, TagConflict}
use Rattle.multi_judge.proofs.pass.Pass.judge_cell.Goals as goal

pub returns-in_err-ended-clause-judged : goal.returns-in_err-ended-clause-judged
returns-in_err-ended-clause-judged g c = search (rules, err_from_is_err_and, is_true)

pub returns-else-put_character-clause-judged : goal.returns-else-put_character-clause-judged
returns-else-put_character-clause-judged g c =
    let state = c.args.self.now.state in
    let new : Pass = record c.args.self.now { state = c.put_character.new.self } in
    subst (λ w. JudgesCell w c.args.self.now c.args.number c.args.width (Err TagConflict) new) (sym (is_false g.row.WORDS c.if-this-ne0.false)) (λ sign own items of.
    let (sized, some, wide) = cell_of_width (cell_in sign state.attributes.font.number c.args.number) c.args.width (sym own) in
    let (cell, found, width) = cell_found sign items state of.state_is c.args.number sized some in
    judged_unfilled sign items (Shows c.args.number) (Err TagConflict) new of.off of.fine (c.put_character.ensures.limited of.limited) (placed_conflict sign items (shown c.args.number cell) found
    (sym (c.put_character.ensures.conflicts (spots sign items) (spot_of sign items (shown c.args.number cell)) of.state_is.area refl (page_here sign items state of.state_is) (line_here sign items state of.state_is))
    ∙ ap not c.if-put_character.false)))

pub returns-then-group-limits-clause-judged : goal.returns-then-group-limits-clause-judged
returns-then-group-limits-clause-judged g c = λ sign own items of.
    let words = not (g.row.WORDS == 0) in
    let old = c.args.self.now in
    let put : PutsCell words old c.args.number c.args.width (Ok c.if-this-ne0.ended) c.if-this-ne0.self = elim c.if-this-ne0.branch [
      | goal.then-this-ne0+in_ok-ended w ↦ rw (w.self-is, w.ended-is, is_true g.row.WORDS w.if-this-ne0.true) w.in_ok-ended.ensures.put
      | goal.else-this-ne0+then-put_character w ↦ rw (w.self-is, w.ended-is, is_false g.row.WORDS w.if-this-ne0.false) (plain_put old _ _ _ _ w.put_character.ensures.conflicts (w.put_character.ensures.added w.if-put_character.true) w.put_character.ensures.limited w.if-put_character.true)
    ] in
    search (rules, cell_judged)

pub returns-else-group-limits-clause-judged : goal.returns-else-group-limits-clause-judged
returns-else-group-limits-clause-judged g c = λ sign own items of.
    let words = not (g.row.WORDS == 0) in
    let old = c.args.self.now in
    let put : PutsCell words old c.args.number c.args.width (Ok c.if-this-ne0.ended) c.if-this-ne0.self = elim c.if-this-ne0.branch [
      | goal.then-this-ne0+in_ok-ended w ↦ rw (w.self-is, w.ended-is, is_true g.row.WORDS w.if-this-ne0.true) w.in_ok-ended.ensures.put
      | goal.else-this-ne0+then-put_character w ↦ rw (w.self-is, w.ended-is, is_false g.row.WORDS w.if-this-ne0.false) (plain_put old _ _ _ _ w.put_character.ensures.conflicts (w.put_character.ensures.added w.if-put_character.true) w.put_character.ensures.limited w.if-put_character.true)
    ] in
    search rules
