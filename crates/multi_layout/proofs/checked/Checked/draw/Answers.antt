use Rattle.multi_layout.proofs.Common.{◌≡◌, ◌+◌, ◌<◌, ◌≤◌, IsAtPage, length, ap, arith, nat_tests}
use Rattle.multi_layout.proofs.PagesLemmas.{accepted_of, at_start, drawing_reads, if_next, page_follows, page_starts}
use Rattle.multi_layout.proofs.WalkLemmas.{no_steps, same_octets, steps_then, steps_within}
use Rattle.multi_layout.proofs.checked.Checked.draw.Goals.{After-pass_page}
use Rattle.multi_layout.proofs.checked.Checked.draw.Goals as goal

pub returns-then-page-self-clause-exists : goal.returns-then-page-self-clause-exists
returns-then-page-self-clause-exists c =
    let count = (accepted_of c.self.invariant).1 in
    rw (← c.self.view_is) (grind (arith, nat_tests))

pub returns-clause-exists : goal.returns-clause-exists
returns-clause-exists c =
    let count = (accepted_of c.self.invariant).1 in
    rw (← c.self.view_is) (grind (arith, nat_tests))

pub loop-cursor-init : goal.loop-cursor-init
loop-cursor-init c =
    let (begins, one) = at_start c.self.invariant c.new-cursor.ensures.start in
    record { begins = begins; few = omega (arith, one); steps = no_steps c.self.inside.source }

-- another page begins after the one that is passed
follows : (c : After-pass_page) → (c.pass_page.new.self.state.pages ≡ c.loop-cursor.cursor.state.pages + 1) × (c.loop-cursor.cursor.at < c.pass_page.new.self.at) × (c.pass_page.new.self.at ≤ length c.self.inside.source.octets)
    × IsAtPage c.self.inside.terms c.self.inside.source.octets c.pass_page.new.self
follows c = page_follows (rw (same_octets c.loop-cursor.invariant.steps.3) at c.pass_page.ensures.passed) (omega (arith, c.loop-cursor-test.true, c.if-page-self.false, (accepted_of c.self.invariant).1))

pub loop-cursor-smaller : goal.loop-cursor-smaller
loop-cursor-smaller c = omega (arith, follows (goal.at.loop-cursor-smaller c).After-pass_page)

pub loop-cursor-preserved : goal.loop-cursor-preserved
loop-cursor-preserved c =
    let start = c.self.inside.source in
    let (pages, further, within, begins) = follows (goal.at.loop-cursor-preserved c).After-pass_page in
    let steps = steps_then start c.loop-cursor.invariant.steps c.pass_page.ensures.steps in
    grind (arith, pages, further, begins, steps, if_next c.pass_page.new.self.state.pages c.loop-cursor.cursor.state.pages 1 pages, steps_within)

pub draw_next-requires-clause-page : goal.draw_next-requires-clause-page
draw_next-requires-clause-page c =
    let i = c.loop-cursor.invariant in
    let (accepted, count, orderly) = accepted_of c.self.invariant in
    rw (same_octets i.steps.3) (c.args.page, omega (arith, count, c.if-page-self.false), λ more. (page_starts i.begins orderly, omega (arith, i.few, c.loop-cursor-test.false)))

pub returns-clause-drawn : goal.returns-clause-drawn
returns-clause-drawn c =
    let i = c.loop-cursor.invariant in
    let (accepted, count, orderly) = accepted_of c.self.invariant in
    let shows = rw (same_octets i.steps.3) at c.draw_next.ensures.drawn in
    λ _. rw (← c.self.view_is) (shows c.args.page (omega (arith, count, c.if-page-self.false)) (λ more. (page_starts i.begins orderly, omega (arith, i.few, c.loop-cursor-test.false))))

pub returns-clause-steps : goal.returns-clause-steps
returns-clause-steps c =
    let s = c.self.inside in
    let i = c.loop-cursor.invariant in
    let on = c.draw_next.ensures.on in
    rw (← c.self.view_is) (drawing_reads s.source c.loop-cursor.cursor c.draw_next.new.next.cursor (length s.source.octets) i.steps (omega arith) on.2 on.0 (omega (arith, on.1, ap length (same_octets i.steps.3))))
