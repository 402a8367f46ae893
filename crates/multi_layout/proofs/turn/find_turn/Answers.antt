use Rattle.multi_layout.proofs.Common.{◌*◌, length, RisesBetween, charged, charged-charged, charged-zero, refl, IsAtPage, IsTurnAt, ◌≡◌, suc, ◌+◌, ◌-◌, ◌<◌, ◌≤◌, ◌==◌, sym, ap, subst, ◌∙◌, arith, meanings, cycle, IsPageSkipped, ◌%◌, page_times, below_cycle}
use Rattle.multi_layout.specs.Finding.{page_steps, pages_steps}
use Rattle.multi_layout.proofs.FindingLemmas.{finding_turn, in_turn}
use Rattle.multi_layout.proofs.PagesLemmas.{at_least, at_most, at_start, if_next, page_behind}
use Rattle.multi_layout.proofs.WalkLemmas.{no_steps, same_octets, steps_then, steps_within}
use Rattle.multi_layout.proofs.turn.find_turn.Given as given
use Rattle.multi_layout.proofs.turn.find_turn.Goals.{After-pass_page-soonest, Else-phase-whole}
use Rattle.multi_layout.proofs.turn.find_turn.Goals as goal

pub loop-behind-init : goal.loop-behind-init
loop-behind-init g c =
    let (begins, one) = at_start c.requires.known c.requires.start in
    record {
      begins = begins;
      began = omega (arith, c.requires.start.state_is.times);
      steps = no_steps c.args.source.now;
      counted = sym (ap (λ n. charged c.args.source.now (pages_steps c.args.source.now.octets n)) (let e : c.args.start.now.state.pages - 1 ≡ 0 = omega (arith, one) in e) ∙ charged-zero c.args.source.now);
    }

-- the page is passed that begins there
skipped : (g : given.Over) (c : After-pass_page-soonest g) → IsPageSkipped c.args.sign.now c.args.source.now.octets c.loop-behind.start c.pass_page-soonest.new.self
skipped g c = rw (← same_octets c.loop-behind.invariant.steps.3) c.pass_page-soonest.ensures.passed

-- what this took
took : (g : given.Over) (c : After-pass_page-soonest g) → RisesBetween c.args.source.now c.pass_page-soonest.new.source 0 (9 * length c.args.source.now.octets + 1)
took g c =
    grind (arith, steps_then c.args.source.now c.loop-behind.invariant.steps c.pass_page-soonest.ensures.steps, skipped g c, at_most (c.pass_page-soonest.new.self.state.pages == c.loop-behind.start.state.pages) 1, steps_within)

counted : (g : given.Over) (c : After-pass_page-soonest g) → let k = c.loop-behind.start.state.pages - 1 in
    c.pass_page-soonest.new.source ≡ charged c.args.source.now (pages_steps c.args.source.now.octets k + page_steps c.args.source.now.octets k)
counted g c =
    let i = c.loop-behind.invariant in
    let k = c.loop-behind.start.state.pages - 1 in
    let start = c.args.source.now in
    c.pass_page-soonest.ensures.counted ∙ ap (λ o. charged c.loop-behind.source (page_steps o k)) (same_octets i.steps.3) ∙ ap (λ s. charged s (page_steps start.octets k)) i.counted ∙ charged-charged start (pages_steps start.octets k) (page_steps start.octets k)

-- its turn
turns : (g : given.Over) (c : After-pass_page-soonest g) → let times = c.pass_page-soonest.new.self.state.attributes in c.args.clock % c.from.result - c.from-in-loop-behind.result < times.on + times.off
    → IsTurnAt c.args.sign.now c.args.source.now.octets (c.args.clock % c.args.told.cycle) c.loop-behind.start
    (record { phase = c.args.clock % c.from.result - c.from-in-loop-behind.result; on = times.on; off = times.off; soonest = c.pass_page-soonest.result })
turns g c until =
    let times = c.pass_page-soonest.new.self.state.attributes in
    let phase = c.args.clock % c.from.result - c.from-in-loop-behind.result in
    subst (λ n. IsTurnAt c.args.sign.now c.args.source.now.octets (c.args.clock % n) c.loop-behind.start (record { phase = phase; on = times.on; off = times.off; soonest = c.pass_page-soonest.result })) c.from.ensures
    (record {
      behind = c.pass_page-soonest.new.self;
      skipped = skipped g c;
      on = refl;
      off = refl;
      began = c.loop-behind.invariant.began;
      phase = ap (λ n. c.args.clock % c.from.result - n) c.from-in-loop-behind.ensures;
      until = until;
    })

pub returns-then-phase-whole-clause-turn : goal.returns-then-phase-whole-clause-turn
returns-then-phase-whole-clause-turn g c = turns g (goal.at.returns-then-phase-whole-clause-turn g c).After-pass_page-soonest (omega (arith, c.if-phase-whole.true, c.whole.ensures))

pub returns-then-phase-whole-clause-steps : goal.returns-then-phase-whole-clause-steps
returns-then-phase-whole-clause-steps g c = took g (goal.at.returns-then-phase-whole-clause-steps g c).After-pass_page-soonest

pub returns-then-phase-whole-clause-counted : goal.returns-then-phase-whole-clause-counted
returns-then-phase-whole-clause-counted g c =
    let here = (goal.at.returns-then-phase-whole-clause-counted g c).After-pass_page-soonest in
    counted g here ∙ ap (charged c.args.source.now) (sym (finding_turn c.requires.known c.args.clock (in_turn c.requires.known c.requires.several c.requires.cycle) (turns g here (omega (arith, c.if-phase-whole.true, c.whole.ensures)))))

-- after a page that is over another begins
over : (g : given.Over) (c : Else-phase-whole g) → (c.pass_page-soonest.new.self.state.pages ≡ c.loop-behind.start.state.pages + 1) × (c.loop-behind.start.at < c.pass_page-soonest.new.self.at) × (c.pass_page-soonest.new.self.at ≤ length c.args.source.now.octets)
    × (c.pass_page-soonest.new.self.state.cycle ≤ c.args.clock % c.from.result) × IsAtPage c.args.sign.now c.args.source.now.octets c.pass_page-soonest.new.self
over g c =
    page_behind (rw (same_octets c.loop-behind.invariant.steps.3) at c.pass_page-soonest.ensures.passed) (c.args.clock % c.from.result) c.loop-behind.invariant.began
    (omega (arith, c.if-phase-whole.false, c.whole.ensures, c.from-in-loop-behind.ensures))
    (subst (λ n. c.args.clock % n < cycle (page_times c.args.sign.now (meanings c.args.source.now.octets))) (sym c.from.ensures)
    (below_cycle c.args.sign.now c.args.source.now.octets c.args.told.pages c.args.told.cycle c.requires.known.pages c.requires.known.cycle c.requires.known.short c.args.clock c.requires.cycle))

pub loop-behind-smaller : goal.loop-behind-smaller
loop-behind-smaller g c = omega (arith, over g (goal.at.loop-behind-smaller g c).Else-phase-whole)

pub loop-behind-preserved : goal.loop-behind-preserved
loop-behind-preserved g c =
    let (pages, further, within, began, begins) = over g (goal.at.loop-behind-preserved g c).Else-phase-whole in
    let here = (goal.at.loop-behind-preserved g c).After-pass_page-soonest in
    let steps = steps_then c.args.source.now c.loop-behind.invariant.steps c.pass_page-soonest.ensures.steps in
    let k = c.loop-behind.start.state.pages - 1 in
    let next : suc k ≡ c.pass_page-soonest.new.self.state.pages - 1 = omega (arith, pages, at_least c.loop-behind.invariant.begins) in
    record {
      begins = begins;
      began = began;
      steps = steps_within c.args.source.now steps (omega arith) (omega (arith, further, if_next c.pass_page-soonest.new.self.state.pages c.loop-behind.start.state.pages 1 pages));
      counted = counted g here ∙ ap (λ n. charged c.args.source.now (pages_steps c.args.source.now.octets n)) next;
    }
