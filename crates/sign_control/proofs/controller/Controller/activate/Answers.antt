use Rattle.std.proofs.Common.{◌∙◌, ap, sym, List, ℕ, Option}
use Rattle.sign_font.specs.Defaults.{default_fault}
use Rattle.sign_control.specs.declared.display.Display.{Display}
use Rattle.sign_control.specs.declared.display.Showing.{Showing}
use Rattle.sign_control.specs.declared.code.SourceMode.TheVariants as mode
use Rattle.sign_control.specs.Activation.{text_of}
use Rattle.sign_control.specs.internal.Answered.{candidate_of}
use Rattle.sign_control.specs.State.{StateData, Stepped}
use Rattle.sign_control.proofs.CountLemmas.{activated-count}
use Rattle.sign_control.proofs.StepLemmas.{activated-refused, activated-shown, fits-replaced, judged-accepted, not-false, not-true, one-taken, ready-shown, shown-accepted, shown-limited, shown-ranged}
use Rattle.sign_control.proofs.controller.Controller.activate.Goals as goal

pub returns-then-not-judged-clause-state : goal.returns-then-not-judged-clause-state
returns-then-not-judged-clause-state c =
    let s = c.self.inside in
    let state : StateData = record { store = s.store; defaults = s.defaults; display = s.display; text = s.text.items; registers = s.registers; end = s.end } in
    let message = candidate_of c.in-Ok.message in
    let text = c.text_of.ensures.text ∙ ap (λ (l : List ℕ). text_of l message) c.deref.ensures.value in
    let j = c.judge_text-judged in
    rw (← c.self.view_is) (ap (λ (after : Stepped). after.state)
    (activated-refused s.sign state c.args.code _ message c.text_of.result.now j.result.accepted j.result.error j.result.position c.code.result c.activated_registers-self-inside.result
    c.in-Ok.ensures.named c.if-code-self.false text j.ensures.accepted j.ensures.error j.ensures.position c.activated_registers-self-inside.ensures
    (not-true j.result.accepted c.if-not-judged.true) c.code.ensures))

pub returns-then-not-judged-clause-reply : goal.returns-then-not-judged-clause-reply
returns-then-not-judged-clause-reply c =
    let s = c.self.inside in
    let state : StateData = record { store = s.store; defaults = s.defaults; display = s.display; text = s.text.items; registers = s.registers; end = s.end } in
    let message = candidate_of c.in-Ok.message in
    let text = c.text_of.ensures.text ∙ ap (λ (l : List ℕ). text_of l message) c.deref.ensures.value in
    let j = c.judge_text-judged in
    rw (← c.self.view_is) (ap (λ (after : Stepped). after.reply)
    (activated-refused s.sign state c.args.code _ message c.text_of.result.now j.result.accepted j.result.error j.result.position c.code.result c.activated_registers-self-inside.result
    c.in-Ok.ensures.named c.if-code-self.false text j.ensures.accepted j.ensures.error j.ensures.position c.activated_registers-self-inside.ensures
    (not-true j.result.accepted c.if-not-judged.true) c.code.ensures))

pub returns-then-not-judged-clause-steps : goal.returns-then-not-judged-clause-steps
returns-then-not-judged-clause-steps c =
    let s = c.self.inside in
    let state : StateData = record { store = s.store; defaults = s.defaults; display = s.display; text = s.text.items; registers = s.registers; end = s.end } in
    let message = candidate_of c.in-Ok.message in
    let text = c.text_of.ensures.text ∙ ap (λ (l : List ℕ). text_of l message) c.deref.ensures.value in
    let j = c.judge_text-judged in
    rw (← c.self.view_is) (activated-count s.sign state c.args.code message _ c.text_of.result.now j.result.steps s.steps c.raised-self-inside.result
    c.in-Ok.ensures.named c.if-code-self.false text j.ensures.steps c.raised-self-inside.ensures)

pub invariant_of-self-2 : goal.invariant_of-self-2
invariant_of-self-2 c =
    let s = c.self.inside in
    let message = candidate_of c.in-Ok.message in
    let accepted = judged-accepted s.sign c.deref.result.now c.text_of.result.now message c.judge_text-judged.result.accepted c.text_of.ensures.text c.judge_text-judged.ensures.accepted c.if-not-judged.false in
    let text = c.replace_text.ensures.items ∙ ap (λ (l : List ℕ). text_of l message) (sym c.deref.ensures.value) in
    ready-shown s.sign s.store s.defaults s.display c.displayed-self-inside.result s.text.items c.replace_text.new.shown.items _ _ s.plane c.self.invariant
    (ap (λ (d : Display). default_fault s.sign d.defaults) c.displayed-self-inside.ensures ∙ one-taken s.sign c.in-Ok.message.defaults s.display.defaults s.defaults c.in-Ok.ensures.defaults c.self.invariant.shown_taken c.self.invariant.taken)
    (shown-accepted s.sign c.deref.result.now message c.displayed-self-inside.result _ c.replace_text.new.shown.items accepted c.displayed-self-inside.ensures text)
    c.replace_text.ensures.short
    (fits-replaced c.in-Ok.message.text s.text.items c.replace_text.new.shown.items s.store.limits.max_string c.in-Ok.ensures.within c.self.invariant.fits c.replace_text.ensures.items)
    c.replace_text.ensures.capacity
    (shown-limited message c.displayed-self-inside.result _ c.displayed-self-inside.ensures c.remaining_of.ensures.limited)
    (shown-ranged message c.displayed-self-inside.result _ c.displayed-self-inside.ensures c.in-Ok.ensures.ranged)

pub returns-clause-state : goal.returns-clause-state
returns-clause-state c =
    let s = c.self.inside in
    let state : StateData = record { store = s.store; defaults = s.defaults; display = s.display; text = s.text.items; registers = s.registers; end = s.end } in
    let message = candidate_of c.in-Ok.message in
    let text = c.text_of.ensures.text ∙ ap (λ (l : List ℕ). text_of l message) c.deref.ensures.value in
    let j = c.judge_text-judged in
    rw (← c.self.view_is) (ap (λ (after : Stepped). after.state)
    (activated-shown s.sign state c.args.code _ message c.text_of.result.now c.replace_text.new.shown.items j.result.accepted j.result.error j.result.position c.activated_registers-self-inside.result
    c.displayed-self-inside.result _
    c.in-Ok.ensures.named c.if-code-self.false text j.ensures.accepted j.ensures.error j.ensures.position c.activated_registers-self-inside.ensures
    (not-false j.result.accepted c.if-not-judged.false) c.displayed-self-inside.ensures
    (ap (λ (r : Option ℕ). let w : Showing = record { clock = 0; remaining = r; requester = c.args.code.requester; mode = mode.Central } in w) c.remaining_of.ensures.remaining)
    c.replace_text.ensures.items))

pub returns-clause-reply : goal.returns-clause-reply
returns-clause-reply c =
    let s = c.self.inside in
    let state : StateData = record { store = s.store; defaults = s.defaults; display = s.display; text = s.text.items; registers = s.registers; end = s.end } in
    let message = candidate_of c.in-Ok.message in
    let text = c.text_of.ensures.text ∙ ap (λ (l : List ℕ). text_of l message) c.deref.ensures.value in
    let j = c.judge_text-judged in
    rw (← c.self.view_is) (ap (λ (after : Stepped). after.reply)
    (activated-shown s.sign state c.args.code _ message c.text_of.result.now c.replace_text.new.shown.items j.result.accepted j.result.error j.result.position c.activated_registers-self-inside.result
    c.displayed-self-inside.result _
    c.in-Ok.ensures.named c.if-code-self.false text j.ensures.accepted j.ensures.error j.ensures.position c.activated_registers-self-inside.ensures
    (not-false j.result.accepted c.if-not-judged.false) c.displayed-self-inside.ensures
    (ap (λ (r : Option ℕ). let w : Showing = record { clock = 0; remaining = r; requester = c.args.code.requester; mode = mode.Central } in w) c.remaining_of.ensures.remaining)
    c.replace_text.ensures.items))

pub returns-clause-steps : goal.returns-clause-steps
returns-clause-steps c =
    let s = c.self.inside in
    let state : StateData = record { store = s.store; defaults = s.defaults; display = s.display; text = s.text.items; registers = s.registers; end = s.end } in
    let message = candidate_of c.in-Ok.message in
    let text = c.text_of.ensures.text ∙ ap (λ (l : List ℕ). text_of l message) c.deref.ensures.value in
    let j = c.judge_text-judged in
    rw (← c.self.view_is) (activated-count s.sign state c.args.code message _ c.text_of.result.now j.result.steps s.steps c.raised-self-inside.result
    c.in-Ok.ensures.named c.if-code-self.false text j.ensures.steps c.raised-self-inside.ensures)
