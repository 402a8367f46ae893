use Rattle.std.proofs.Common.{◌≡◌, ◌<◌, ◌^◌, ◌+◌, ◌++◌, ◌∙◌, List, ℕ, ap, length, arith}
use Rattle.saved_octets.specs.Checksum.{crc32}
use Rattle.saved_octets.specs.Field.{placed, text_octets}
use Rattle.saved_octets.specs.Seal.{headed}
use Rattle.saved_octets.specs.Slots.{table_octets}
use Rattle.sign_control.specs.State.{ControllerData, StateData}
use Rattle.sign_control.specs.Saved.{body_octets, parts_octets, parts_of, save_size}
use Rattle.sign_control.proofs.SavedLemmas.{length-body, restored_again, saved_is}
use Rattle.sign_control.proofs.controller.Controller.save.Goals as goal

pub put_seal-requires : goal.put_seal-requires
put_seal-requires c =
    let s = c.self.inside in
    let state : StateData = record { store = s.store; defaults = s.defaults; display = s.display; text = c.deref.result.now; registers = s.registers; end = s.end } in
    let size = ap (λ (d : ControllerData). save_size d.state.store.limits) c.self.view_is in
    let text = ap (λ (l : List ℕ). length l) c.deref.ensures.value in
    let ends : c.put_body-end.result ≡ 5 + length (body_octets state) = c.put_body-end.ensures.end in
    let kept = c.used_bytes.ensures.kept in
    record {
      room = omega (arith, ends, length-body state, size, text, c.if-buffer-save_size.false, c.save_size.ensures.size, c.self.invariant.fits, kept.count, kept.within);
    }

pub returns-clause-saved : goal.returns-clause-saved
returns-clause-saved c =
    let s = c.self.inside in
    let state : StateData = record { store = s.store; defaults = s.defaults; display = s.display; text = s.text.items; registers = s.registers; end = s.end } in
    let bodies : List ℕ → List ℕ = λ l. parts_octets (parts_of state) ++ text_octets l ++ table_octets s.store.slots in
    let size = ap (λ (d : ControllerData). save_size d.state.store.limits) c.self.view_is in
    let kept = c.used_bytes.ensures.kept in
    let long = length-body state in
    let text = ap (λ (l : List ℕ). length (bodies l)) c.deref.ensures.value in
    let whole = saved_is state c.args.buffer.now c.put_head.new.buffer c.put_body-end.new.buffer c.put_seal.new.buffer _ c.put_body-end.result
    (omega (arith, size, c.if-buffer-save_size.false, c.save_size.ensures.size)) kept c.self.invariant.fits
    (omega (arith, long, c.len.ensures, c.used_bytes.ensures.used, c.count.ensures.count)) (omega (arith, c.put_body-end.ensures.end, text))
    c.put_head.ensures.put (c.put_body-end.ensures.put ∙ ap (λ (l : List ℕ). placed c.put_head.new.buffer 5 (bodies l)) c.deref.ensures.value) c.put_seal.ensures.put in
    rw (← c.self.view_is) whole.saves

pub returns-clause-back : goal.returns-clause-back
returns-clause-back c =
    let s = c.self.inside in
    let state : StateData = record { store = s.store; defaults = s.defaults; display = s.display; text = s.text.items; registers = s.registers; end = s.end } in
    let bodies : List ℕ → List ℕ = λ l. parts_octets (parts_of state) ++ text_octets l ++ table_octets s.store.slots in
    let size = ap (λ (d : ControllerData). save_size d.state.store.limits) c.self.view_is in
    let kept = c.used_bytes.ensures.kept in
    let long = length-body state in
    let text = ap (λ (l : List ℕ). length (bodies l)) c.deref.ensures.value in
    let whole = saved_is state c.args.buffer.now c.put_head.new.buffer c.put_body-end.new.buffer c.put_seal.new.buffer _ c.put_body-end.result
    (omega (arith, size, c.if-buffer-save_size.false, c.save_size.ensures.size)) kept c.self.invariant.fits
    (omega (arith, long, c.len.ensures, c.used_bytes.ensures.used, c.count.ensures.count)) (omega (arith, c.put_body-end.ensures.end, text))
    c.put_head.ensures.put (c.put_body-end.ensures.put ∙ ap (λ (l : List ℕ). placed c.put_head.new.buffer 5 (bodies l)) c.deref.ensures.value) c.put_seal.ensures.put in
    let narrow : crc32 (headed (body_octets state)) < 2 ^ 32 = omega (arith, whole.sum, c.put_seal.ensures.fits) in
    rw (← c.self.view_is) (restored_again s.sign state c.self.invariant.ranged c.put_body-end.ensures.numbers c.put_body-end.ensures.ranged kept c.self.invariant.limited c.self.invariant.fits
    c.self.invariant.taken c.self.invariant.shown_taken c.self.invariant.accepted narrow)
