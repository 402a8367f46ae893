use Rattle.multi_layout.proofs.Common.{◌+◌, ◌≤◌, ap, arith, length, Counted}
use Rattle.multi_meaning.proofs.StepsLemmas.{judging_is_linear}
use Rattle.multi_meaning.specs.Steps.{judging_steps}
use Rattle.multi_layout.specs.Finding.{finding_steps}
use Rattle.multi_layout.proofs.verdict.Judge.draw_shown.Goals as goal

pub returns-clause-accepted : goal.returns-clause-accepted
returns-clause-accepted c = rw (← c.self.view_is) (c.in_ok-told.told.pages, c.in_ok-told.ensures.told.verdict)

pub returns-clause-least : goal.returns-clause-least
returns-clause-least c =
    let sign = c.self.inside.terms in
    let octets = c.args.source.now.octets in
    let told = c.in_ok-told.ensures.told in
    let judged = c.judge_string.new.source in
    let most = (judging_is_linear sign octets).most in
    let (drawn, _, few, all) = c.draw_told.ensures.steps in
    let (more, _, _, behind) = c.draw_told.ensures.found in
    let whole = ap (λ (s : Counted). s.steps) all in
    let parts = ap (λ (s : Counted). s.steps) behind in
    let least : judging_steps sign octets + finding_steps sign octets c.args.clock ≤ c.draw_told.new.source.steps =
    omega (arith, told.steps, most, few, whole, parts, c.requires.short, ap length told.same, ap (λ o. finding_steps sign o c.args.clock) told.same) in
    rw (← c.self.view_is) least
