use Rattle.multi_layout.proofs.Common.{length, ap, subst, arith, RisesBetween, rises_then, reading_limit, check_limit}
use Rattle.multi_layout.proofs.PagesLemmas.{drawing_fills, drawing_reads}
use Rattle.multi_layout.proofs.WalkLemmas.{no_steps, same_octets}
use Rattle.multi_layout.proofs.pages.draw_told.Goals as goal

pub returns-in-Page-clause-shown : goal.returns-in-Page-clause-shown
returns-in-Page-clause-shown c = grind (arith, same_octets)

pub returns-in-Page-clause-steps : goal.returns-in-Page-clause-steps
returns-in-Page-clause-steps c =
    let n = length c.args.source.now.octets in
    let passed = c.draw_page.ensures.passed in
    let source = c.find_shown-shown.new.source in
    rises_then c.args.source.now source c.draw_page.new.source 0 (check_limit n) 0 (reading_limit n) c.find_shown-shown.ensures.steps
    (drawing_reads source {way = 0} c.find_shown-shown.new.start c.draw_page.new.cursor n (no_steps source) (omega arith) c.draw_page.ensures.steps passed.on (omega (arith, passed.within, ap length (same_octets c.find_shown-shown.ensures.steps.3))))

pub returns-in-Page-clause-plane_steps : goal.returns-in-Page-clause-plane_steps
returns-in-Page-clause-plane_steps c =
    let fills = c.draw_page.ensures.fills in (
      fills.least,
      drawing_fills c.args.sign.now c.args.plane.now c.draw_page.new.plane c.find_shown-shown.new.start c.draw_page.new.cursor (length c.args.source.now.octets) fills
          (omega (arith, c.draw_page.ensures.passed.within, ap length (same_octets c.find_shown-shown.ensures.steps.3))),
    )

pub returns-in-Page-clause-found : goal.returns-in-Page-clause-found
returns-in-Page-clause-found c =
    let n = length c.args.source.now.octets in
    let passed = c.draw_page.ensures.passed in
    let source = c.find_shown-shown.new.source in
    subst (λ s. RisesBetween s c.draw_page.new.source 0 (reading_limit n)) c.find_shown-shown.ensures.counted
    (drawing_reads source {way = 0} c.find_shown-shown.new.start c.draw_page.new.cursor n (no_steps source) (omega arith) c.draw_page.ensures.steps passed.on (omega (arith, passed.within, ap length (same_octets c.find_shown-shown.ensures.steps.3))))

pub returns-in-Off-clause-found : goal.returns-in-Off-clause-found
returns-in-Off-clause-found c = subst (λ s. RisesBetween s c.find_shown-shown.new.source 0 (reading_limit (length c.args.source.now.octets))) c.find_shown-shown.ensures.counted (no_steps c.find_shown-shown.new.source)
