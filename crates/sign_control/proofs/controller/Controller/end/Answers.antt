use Rattle.std.proofs.Common.{◌∙◌, ap, sym, List, ℕ}
use Rattle.step_count.specs.Count.{raised}
use Rattle.sign_font.specs.Defaults.{default_fault}
use Rattle.sign_control.specs.declared.display.Display.{Display}
use Rattle.sign_control.specs.Activation.{named, text_of}
use Rattle.sign_control.specs.internal.Answered.{candidate_of}
use Rattle.sign_control.specs.Counts.{end_text, text_steps}
use Rattle.sign_control.proofs.StepLemmas.{end-accepted, fits-replaced, ready-shown, shown-accepted, shown-limited, shown-ranged}
use Rattle.sign_control.proofs.controller.Controller.end.Goals as goal

pub invariant_of-self : goal.invariant_of-self
invariant_of-self c =
    let s = c.self.inside in
    let message = candidate_of c.end_message-steps.result.0 in
    let accepted = end-accepted s.sign c.deref.result.now s.defaults _ message c.end_message-steps.ensures.message in
    let text = c.replace_text.ensures.items ∙ ap (λ (l : List ℕ). text_of l message) (sym c.deref.ensures.value) in
    ready-shown s.sign s.store s.defaults s.display c.displayed-self-inside.result s.text.items c.replace_text.new.shown.items _ _ s.plane c.self.invariant
    (ap (λ (d : Display). default_fault s.sign d.defaults) c.displayed-self-inside.ensures ∙ c.end_message-steps.ensures.taken)
    (shown-accepted s.sign c.deref.result.now message c.displayed-self-inside.result _ c.replace_text.new.shown.items accepted c.displayed-self-inside.ensures text)
    c.replace_text.ensures.short
    (fits-replaced c.end_message-steps.result.0.text s.text.items c.replace_text.new.shown.items s.store.limits.max_string c.end_message-steps.ensures.within c.self.invariant.fits c.replace_text.ensures.items)
    c.replace_text.ensures.capacity
    (shown-limited message c.displayed-self-inside.result _ c.displayed-self-inside.ensures tt)
    (shown-ranged message c.displayed-self-inside.result _ c.displayed-self-inside.ensures c.end_message-steps.ensures.ranged)

pub returns-clause-steps : goal.returns-clause-steps
returns-clause-steps c =
    let s = c.self.inside in
    let named' = named s.store s.display s.defaults s.end in
    rw (← c.self.view_is) (
    c.raised-self-inside.ensures
    ∙ ap (raised s.steps) (c.end_message-steps.ensures.steps ∙ ap (λ (l : List ℕ). text_steps (end_text s.sign l named')) c.deref.ensures.value)
    )
