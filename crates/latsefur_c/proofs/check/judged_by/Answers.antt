use Rattle.std.proofs.Common.{refl, inl, ap, ◌∙◌, arith, subst, List, ℕ}
use Rattle.multi_token.specs.Counted.{Counted}
use Rattle.multi_meaning.specs.Verdict.{Accepted, IsCycle, IsVerdict}
use Rattle.sign_font.specs.Sign.{SignData}
use Rattle.latsefur_c.proofs.check.judged_by.Goals as goal

pub returns-in-Ok : goal.returns-in-Ok
returns-in-Ok c =
    let checked = c.in-Ok.checked in
    let text = c.args.text.now in
    let octets = c.in-Ok.ensures.kept.1 ∙ ap (λ (s : Counted). s.octets) c.new.ensures in
    let by = c.in-Ok.ensures.kept.0 in
    let verdict = subst (λ (s : SignData). IsVerdict s text (Accepted c.pages.result)) by (subst (λ (l : List ℕ). IsVerdict checked.sign l (Accepted c.pages.result)) octets c.pages.ensures) in
    let cycle = subst (λ (s : SignData). IsCycle s text c.cycle.result) by (subst (λ (l : List ℕ). IsCycle checked.sign l c.cycle.result) octets c.cycle.ensures) in
    inl (refl, omega (arith, c.if-text-gt-MAX_TEXT.false), verdict, cycle, refl, refl)
