use Rattle.multi_layout.proofs.Common.{◌≡◌, ◌-◌, length, refl, subst, arith, Lights, picture}
use Rattle.multi_layout.proofs.PagesLemmas.{drawing_fills, drawing_reads, turns_to}
use Rattle.multi_layout.proofs.WalkLemmas.{no_steps}
use Rattle.multi_layout.proofs.checked.Checked.draw_next.Goals as goal

pub returns-clause-drawn : goal.returns-clause-drawn
returns-clause-drawn c = λ page more is.
    let this : c.args.next.now.cursor.state.pages - 1 ≡ page = omega (arith, (is more).1) in
    rw (← c.self.view_is) (subst (λ n. Lights c.draw_page.new.plane (picture c.self.inside.terms c.self.inside.source.octets n c.args.phase c.args.colour)) this c.draw_page.ensures.drawn)

pub returns-clause-next : goal.returns-clause-next
returns-clause-next c = λ page is.
    turns_to c.args.self.now (record { sign = c.self.inside.terms; source = c.draw_page.new.source }) c.args.next.now c.draw_page.new.cursor page is (rw (← c.self.view_is) c.draw_page.ensures.passed) (rw (← c.self.view_is) refl) (rw (← c.self.view_is) c.draw_page.ensures.kept)

pub returns-clause-steps : goal.returns-clause-steps
returns-clause-steps c =
    let passed = c.draw_page.ensures.passed in
    rw (← c.self.view_is) (drawing_reads c.self.inside.source {way = 0} c.args.next.now.cursor c.draw_page.new.cursor (length c.self.inside.source.octets) (no_steps c.self.inside.source) (omega arith) c.draw_page.ensures.steps passed.on passed.within)

pub returns-clause-plane_steps : goal.returns-clause-plane_steps
returns-clause-plane_steps c =
    let fills = c.draw_page.ensures.fills in
    rw (← c.self.view_is) (fills.least, drawing_fills c.self.inside.terms c.args.plane.now c.draw_page.new.plane c.args.next.now.cursor c.draw_page.new.cursor (length c.self.inside.source.octets) fills c.draw_page.ensures.passed.within)
