use Rattle.multi_judge.proofs.Lemmas.{refl, character_of, rules, ap, arith, sym, ◌∙◌, LineFill, cell_in, Shows, offence, filled_conflict, cell_of_width, cell_put, clash_by, order_of, IsSplitReached}
use Rattle.multi_judge.proofs.pass.Pass.fill_cell.Goals as goal

pub returns-then-page-present-clause-put : goal.returns-then-page-present-clause-put
returns-then-page-present-clause-put c = λ sign own items is.
    let kept = c.args.self.now in
    let (cell, some, wide) = cell_of_width (cell_in sign kept.state.attributes.font.number c.args.number) c.args.cell_width (sym own) in
    ap (λ (setting : LineFill). offence setting sign items (Shows c.args.number)) is.words
    ∙ filled_conflict sign items kept is.of c.args.number cell some _ (clash_by (order_of kept.order) kept.state.attributes.line_just c.number-just.result c.number-just.ensures.number) (rw c.number-page.ensures.number at c.if-page-present.true)

pub returns-clause-put : goal.returns-clause-put
returns-clause-put c = λ sign own items is.
    let parts : IsSplitReached c.args.self.now c.if-page-present-2.split = first_of (search (rules), grind (arith)) in
    cell_put c.args.self.now _ _ _ c.reach.ensures.reached c.if-page-present-2.split parts c.fill_character.new.self c.fill_character.new.split sign items is c.args.number c.args.cell_width own
    c.number-page.result c.number-just.result c.number-page.ensures.number c.number-just.ensures.number c.if-page-present.false _ c.fill_character.ensures.most c.fill_character.result (character_of c.args.self.now.state.attributes c.args.cell_width) refl c.fill_character.ensures.sum
