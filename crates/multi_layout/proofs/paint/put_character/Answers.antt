use Rattle.multi_layout.proofs.Common.{◌-◌, ◌==◌, true, false, refl, sym, ap, ◌∙◌, arith, cond, nat_tests, is_lit, cell_in, is_lit_at, shown_colour, Attributes, put_rows_of}
use Rattle.multi_layout.proofs.DrawLemmas.{character_put}
use Rattle.multi_layout.proofs.paint.put_character.Goals as goal

pub returns-then-not-is_lit-clause-drawn : goal.returns-then-not-is_lit-clause-drawn
returns-then-not-is_lit-clause-drawn c = λ before rest state number st same found stands.
    character_put c.args.sign.now before state st number c.args.cell.now (ap (λ (a : Attributes). cell_in c.args.sign.now a.font.number number) same ∙ found) rest c.args.layer c.args.place stands
    c.args.plane.now c.args.plane.now _ false (ap (λ (a : Attributes). is_lit_at c.args.layer.phase a.flash) same ∙ sym c.is_lit.ensures ∙ c.if-not-is_lit.true) refl refl refl (λ x y across down. refl)

pub returns-then-column-columns-clause-drawn : goal.returns-then-column-columns-clause-drawn
returns-then-column-columns-clause-drawn c = λ before rest state number st same found stands.
    character_put c.args.sign.now before state st number c.args.cell.now (ap (λ (a : Attributes). cell_in c.args.sign.now a.font.number number) same ∙ found) rest c.args.layer c.args.place stands
    c.args.plane.now c.args.plane.now c.has-on.result true (ap (λ (a : Attributes). is_lit_at c.args.layer.phase a.flash) same ∙ sym c.is_lit.ensures ∙ c.if-not-is_lit.false)
    (c.has-on.ensures.colour ∙ ap (λ (a : Attributes). shown_colour c.args.sign.now a.fore == c.args.layer.colour) (sym same)) refl refl
    (λ x y across down. elim c.then-column-columns.branch [
      | goal.then-column-columns-via-then-column-columns w ↦ grind (arith, nat_tests, w.if-column-columns.true)
      | goal.then-column-columns-via-else-column-columns+then-row-rows w ↦ grind (arith, nat_tests, w.if-row-rows.true)
    ])

pub returns-clause-drawn : goal.returns-clause-drawn
returns-clause-drawn c = λ before rest state number st same found stands.
    let place = c.args.place in
    let plane = c.args.plane.now in
    let put = c.put_rows.ensures in
    character_put c.args.sign.now before state st number c.args.cell.now (ap (λ (a : Attributes). cell_in c.args.sign.now a.font.number number) same ∙ found) rest c.args.layer place stands
    plane c.put_rows.new.self c.has-on.result true (ap (λ (a : Attributes). is_lit_at c.args.layer.phase a.flash) same ∙ sym c.is_lit.ensures ∙ c.if-not-is_lit.false)
    (c.has-on.ensures.colour ∙ ap (λ (a : Attributes). shown_colour c.args.sign.now a.fore == c.args.layer.colour) (sym same)) put.width put.height
    (λ x y across down.
    let rows = put_rows_of c.args.cell.now c.rows-all.result.now place.column place.row (plane.width - place.column) (plane.height - place.row) c.min-width.result c.min-height.result x y (omega arith)
    c.rows-all.ensures.count c.rows-all.ensures.each (omega arith) (omega (arith, c.rows-all.ensures.count)) (omega arith) (omega arith) in
    put.pixels x y ∙ ap (λ b. cond b c.has-on.result (is_lit plane x y)) rows)
