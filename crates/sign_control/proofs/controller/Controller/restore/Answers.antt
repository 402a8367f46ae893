use Rattle.std.proofs.Common.{◌≡◌, ◌∙◌, List, ℕ, Some, None, Result, Ok, Err, refl, sym, ap, subst, length, arith}
use Rattle.std.proofs.lemmas.Result.{err_from_is_err_and}
use Rattle.step_count.specs.Count.{raised}
use Rattle.sign_font.specs.Defaults.{under}
use Rattle.message_store.specs.declared.limits.StoreLimits.{StoreLimits}
use Rattle.message_store.specs.Slot.{StoreData}
use Rattle.saved_octets.specs.declared.fault.StateFault.{StateFault}
use Rattle.sign_control.specs.State.{StateData}
use Rattle.sign_control.specs.Saved.{Restores, restored, sign_fault}
use Rattle.sign_control.specs.internal.Ready.{IsAccepted}
use Rattle.sign_control.specs.internal.Saving.{read_data}
use Rattle.sign_control.proofs.RestoredLemmas.{filled, ready-restored, refusal, restoration, unfilled, unread, untaken, steps-read, steps-unread}
use Rattle.sign_control.proofs.controller.Controller.restore.Goals as goal

pub returns-in_err-read-clause-restored : goal.returns-in_err-read-clause-restored
returns-in_err-read-clause-restored c =
    let s = c.self.inside in
    let state : StateData = record { store = s.store; defaults = s.defaults; display = s.display; text = s.text.items; registers = s.registers; end = s.end } in
    let octets = c.args.octets.now in
    let e = c.in_err-read.field-0.0 in
    let p = err_from_is_err_and c.from_residual.result c.from_residual.ensures.1 in
    let was : c.from_residual.result ≡ Err e = rw (p.1, p.2) refl in
    let most : c.from.result ≡ s.store.limits.max_string = c.from.ensures ∙ ap (λ (l : StoreLimits). l.max_string) c.limits.ensures.limits in
    rw (← c.self.view_is) (refusal (restored s.sign s.store octets) state c.from_residual.result e (unread s.sign s.store octets c.from.result e most c.in_err-read.ensures.read) was)

pub returns-in-Some-clause-restored : goal.returns-in-Some-clause-restored
returns-in-Some-clause-restored c =
    let s = c.self.inside in
    let state : StateData = record { store = s.store; defaults = s.defaults; display = s.display; text = s.text.items; registers = s.registers; end = s.end } in
    let octets = c.args.octets.now in
    let r = read_data c.in_ok-read.read in
    let e = c.in-Some.fault in
    let most : c.from.result ≡ s.store.limits.max_string = c.from.ensures ∙ ap (λ (l : StoreLimits). l.max_string) c.limits.ensures.limits in
    let fault : sign_fault s.sign r.parts r.text ≡ Some e = sym c.sign_fault-fault.ensures.fault ∙ c.in-Some.is in
    rw (← c.self.view_is) (refusal (restored s.sign s.store octets) state (Err e) e (untaken s.sign s.store octets c.from.result r e most c.in_ok-read.ensures.read fault) refl)

pub returns-in_err-restore_table-clause-restored : goal.returns-in_err-restore_table-clause-restored
returns-in_err-restore_table-clause-restored c =
    let s = c.self.inside in
    let state : StateData = record { store = s.store; defaults = s.defaults; display = s.display; text = s.text.items; registers = s.registers; end = s.end } in
    let octets = c.args.octets.now in
    let r = read_data c.in_ok-read.read in
    let e = c.in_err-restore_table.field-0.0 in
    let result = c.from_residual-in_err-restore_table.result in
    let p = err_from_is_err_and result c.from_residual-in_err-restore_table.ensures.1 in
    let was : result ≡ Err e = rw (p.1, p.2) refl in
    let most : c.from.result ≡ s.store.limits.max_string = c.from.ensures ∙ ap (λ (l : StoreLimits). l.max_string) c.limits.ensures.limits in
    let none : sign_fault s.sign r.parts r.text ≡ None = sym c.sign_fault-fault.ensures.fault ∙ c.in_default.is in
    let u = unfilled s.sign s.store c.restore_table.new.store octets c.from.result r (Err e) e most c.in_ok-read.ensures.read none c.in_err-restore_table.ensures.replaced refl in
    let P : StoreData → Type 0 = λ st. Restores (restored s.sign s.store octets) state (record { store = st; defaults = s.defaults; display = s.display; text = s.text.items; registers = s.registers; end = s.end }) result in
    rw (← c.self.view_is) (subst P (sym u.kept) (refusal (restored s.sign s.store octets) state result e u.refused was))

pub invariant_of-self-2 : goal.invariant_of-self-2
invariant_of-self-2 c =
    let s = c.self.inside in
    let octets = c.args.octets.now in
    let r = read_data c.in_ok-read.read in
    let shown = r.parts.display in
    let most : c.from.result ≡ s.store.limits.max_string = c.from.ensures ∙ ap (λ (l : StoreLimits). l.max_string) c.limits.ensures.limits in
    let free : c.sign_fault-fault.result.0 ≡ None = c.in_default.is in
    let none : sign_fault s.sign r.parts r.text ≡ None = sym c.sign_fault-fault.ensures.fault ∙ free in
    let f = filled s.sign s.store c.restore_table.new.store octets c.from.result r (Ok tt) most c.in_ok-read.ensures.read none c.in_ok-restore_table.ensures.replaced refl in
    let P : List ℕ → Type 0 = IsAccepted (under s.sign shown.defaults) in
    ready-restored s.sign s.store c.restore_table.new.store s.defaults r.parts.defaults s.display shown s.text.items c.replace_text.new.shown.items _ _ s.plane c.self.invariant f.limits
    (c.sign_fault-fault.ensures.taken free) (c.sign_fault-fault.ensures.shown_taken free) (subst P (sym c.replace_text.ensures.items) (c.sign_fault-fault.ensures.accepted free))
    (omega (arith, ap (λ (l : List ℕ). length l) c.replace_text.ensures.items, c.in_ok-read.ensures.short, most)) c.replace_text.ensures.capacity c.in_ok-read.ensures.limited c.in_ok-read.ensures.ranged

pub returns-clause-restored : goal.returns-clause-restored
returns-clause-restored c =
    let s = c.self.inside in
    let state : StateData = record { store = s.store; defaults = s.defaults; display = s.display; text = s.text.items; registers = s.registers; end = s.end } in
    let octets = c.args.octets.now in
    let r = read_data c.in_ok-read.read in
    let most : c.from.result ≡ s.store.limits.max_string = c.from.ensures ∙ ap (λ (l : StoreLimits). l.max_string) c.limits.ensures.limits in
    let free : c.sign_fault-fault.result.0 ≡ None = c.in_default.is in
    let none : sign_fault s.sign r.parts r.text ≡ None = sym c.sign_fault-fault.ensures.fault ∙ free in
    let f = filled s.sign s.store c.restore_table.new.store octets c.from.result r (Ok tt) most c.in_ok-read.ensures.read none c.in_ok-restore_table.ensures.replaced refl in
    let after : List ℕ → StateData = λ l. record { store = c.restore_table.new.store; defaults = r.parts.defaults; display = r.parts.display; text = l; registers = r.parts.registers; end = r.parts.end } in
    let whole : restored s.sign s.store octets ≡ Ok (after c.replace_text.new.shown.items) =
    f.state ∙ ap (λ (l : List ℕ). let y : Result StateData StateFault = Ok (after l) in y) (sym c.replace_text.ensures.items) in
    rw (← c.self.view_is) (restoration (restored s.sign s.store octets) state (after c.replace_text.new.shown.items) whole)

pub returns-in_err-read-clause-steps : goal.returns-in_err-read-clause-steps
returns-in_err-read-clause-steps c =
    let s = c.self.inside in
    let most : c.from.result ≡ s.store.limits.max_string = c.from.ensures ∙ ap (λ (l : StoreLimits). l.max_string) c.limits.ensures.limits in
    rw (← c.self.view_is) (omega (arith, steps-unread s.sign s.store c.args.octets.now c.from.result c.in_err-read.field-0.0 most c.in_err-read.ensures.read))

pub returns-in_err-read-clause-limit : goal.returns-in_err-read-clause-limit
returns-in_err-read-clause-limit c =
    let s = c.self.inside in
    let most : c.from.result ≡ s.store.limits.max_string = c.from.ensures ∙ ap (λ (l : StoreLimits). l.max_string) c.limits.ensures.limits in
    rw (← c.self.view_is) (omega (arith, steps-unread s.sign s.store c.args.octets.now c.from.result c.in_err-read.field-0.0 most c.in_err-read.ensures.read))

pub returns-in-Some-clause-steps : goal.returns-in-Some-clause-steps
returns-in-Some-clause-steps c =
    let s = c.self.inside in
    let most : c.from.result ≡ s.store.limits.max_string = c.from.ensures ∙ ap (λ (l : StoreLimits). l.max_string) c.limits.ensures.limits in
    let taken = steps-read s.sign s.store c.args.octets.now c.from.result (read_data c.in_ok-read.read) c.sign_fault-fault.result.1 most c.in_ok-read.ensures.read c.sign_fault-fault.ensures.steps in
    rw (← c.self.view_is) (c.raised-self-inside.ensures ∙ ap (raised s.steps) (sym taken))

pub returns-in-Some-clause-limit : goal.returns-in-Some-clause-limit
returns-in-Some-clause-limit c =
    let s = c.self.inside in
    let most : c.from.result ≡ s.store.limits.max_string = c.from.ensures ∙ ap (λ (l : StoreLimits). l.max_string) c.limits.ensures.limits in
    let taken = steps-read s.sign s.store c.args.octets.now c.from.result (read_data c.in_ok-read.read) c.sign_fault-fault.result.1 most c.in_ok-read.ensures.read c.sign_fault-fault.ensures.steps in
    rw (← c.self.view_is) (omega (arith, taken, c.sign_fault-fault.ensures.limit))

pub returns-in_err-restore_table-clause-steps : goal.returns-in_err-restore_table-clause-steps
returns-in_err-restore_table-clause-steps c =
    let s = c.self.inside in
    let most : c.from.result ≡ s.store.limits.max_string = c.from.ensures ∙ ap (λ (l : StoreLimits). l.max_string) c.limits.ensures.limits in
    let taken = steps-read s.sign s.store c.args.octets.now c.from.result (read_data c.in_ok-read.read) c.sign_fault-fault.result.1 most c.in_ok-read.ensures.read c.sign_fault-fault.ensures.steps in
    rw (← c.self.view_is) (c.raised-self-inside.ensures ∙ ap (raised s.steps) (sym taken))

pub returns-in_err-restore_table-clause-limit : goal.returns-in_err-restore_table-clause-limit
returns-in_err-restore_table-clause-limit c =
    let s = c.self.inside in
    let most : c.from.result ≡ s.store.limits.max_string = c.from.ensures ∙ ap (λ (l : StoreLimits). l.max_string) c.limits.ensures.limits in
    let taken = steps-read s.sign s.store c.args.octets.now c.from.result (read_data c.in_ok-read.read) c.sign_fault-fault.result.1 most c.in_ok-read.ensures.read c.sign_fault-fault.ensures.steps in
    rw (← c.self.view_is) (omega (arith, taken, c.sign_fault-fault.ensures.limit))

pub returns-clause-steps : goal.returns-clause-steps
returns-clause-steps c =
    let s = c.self.inside in
    let most : c.from.result ≡ s.store.limits.max_string = c.from.ensures ∙ ap (λ (l : StoreLimits). l.max_string) c.limits.ensures.limits in
    let taken = steps-read s.sign s.store c.args.octets.now c.from.result (read_data c.in_ok-read.read) c.sign_fault-fault.result.1 most c.in_ok-read.ensures.read c.sign_fault-fault.ensures.steps in
    rw (← c.self.view_is) (c.raised-self-inside.ensures ∙ ap (raised s.steps) (sym taken))

pub returns-clause-limit : goal.returns-clause-limit
returns-clause-limit c =
    let s = c.self.inside in
    let most : c.from.result ≡ s.store.limits.max_string = c.from.ensures ∙ ap (λ (l : StoreLimits). l.max_string) c.limits.ensures.limits in
    let taken = steps-read s.sign s.store c.args.octets.now c.from.result (read_data c.in_ok-read.read) c.sign_fault-fault.result.1 most c.in_ok-read.ensures.read c.sign_fault-fault.ensures.steps in
    rw (← c.self.view_is) (omega (arith, taken, c.sign_fault-fault.ensures.limit))
