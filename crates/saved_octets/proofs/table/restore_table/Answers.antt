use Rattle.std.proofs.Common.{◌≡◌, ◌∙◌, List, Result, Ok, Err, Bool, true, false, cond, eqb, length, ap, sym, refl}
use Rattle.std.proofs.lemmas.Result.{err_from_is_err_and}
use Rattle.message_store.specs.declared.limits.StoreLimits.{StoreLimits}
use Rattle.message_store.specs.Slot.{SlotData}
use Rattle.saved_octets.specs.declared.fault.StateFault.{StateFault}
use Rattle.saved_octets.specs.declared.fault.StateFault.TheVariants as fault
use Rattle.saved_octets.specs.Slots.{counted_in, slots_in, table_in}
use Rattle.saved_octets.specs.internal.Reading.{rest_of}
use Rattle.saved_octets.proofs.ReadLemmas.{readable, refused, replaced, table_read, table_uncounted, table_unread}
use Rattle.saved_octets.proofs.table.restore_table.Goals as goal

pub returns-in_err-slots : goal.returns-in_err-slots
returns-in_err-slots c =
    let old = c.args.store.now in
    let octets = c.args.octets.now in
    let e = c.in_err-slots.field-0.0 in
    let p = err_from_is_err_and c.from_residual.result c.from_residual.ensures.1 in
    let was : c.from_residual.result ≡ Err e = rw (p.1, p.2) refl in
    let read : counted_in old.limits octets ≡ Err e = sym (ap (λ (l : StoreLimits). counted_in l octets) c.limits-limits.ensures.limits) ∙ c.in_err-slots.ensures in
    record { replaced = refused (table_in old.limits octets) old c.from_residual.result e (table_uncounted old.limits octets e read) was }

pub returns-in_err-rest : goal.returns-in_err-rest
returns-in_err-rest c =
    let old = c.args.store.now in
    let octets = c.args.octets.now in
    let e = c.in_err-rest.field-0.0 in
    let slots = c.in_ok-slots.slots.now in
    let p = err_from_is_err_and c.from_residual-in_err-rest.result c.from_residual-in_err-rest.ensures.1 in
    let was : c.from_residual-in_err-rest.result ≡ Err e = rw (p.1, p.2) refl in
    let read : counted_in old.limits octets ≡ Ok slots = sym (ap (λ (l : StoreLimits). counted_in l octets) c.limits-limits.ensures.limits) ∙ c.in_ok-slots.ensures in
    let rest : rest_of (slots_in old.limits old.limits.slots old.limits.bytes slots) ≡ Err e =
    sym (ap (λ (l : StoreLimits). rest_of (slots_in l l.slots l.bytes slots)) c.limits-limits.ensures.limits) ∙ c.in_err-rest.ensures in
    record { replaced = refused (table_in old.limits octets) old c.from_residual-in_err-rest.result e (table_unread old.limits octets slots e read rest) was }

pub returns-then-not-is_empty : goal.returns-then-not-is_empty
returns-then-not-is_empty c =
    let old = c.args.store.now in
    let octets = c.args.octets.now in
    let slots = c.in_ok-slots.slots.now in
    let after = c.in_ok-rest.rest.now in
    let read : counted_in old.limits octets ≡ Ok slots = sym (ap (λ (l : StoreLimits). counted_in l octets) c.limits-limits.ensures.limits) ∙ c.in_ok-slots.ensures in
    let rest : rest_of (slots_in old.limits old.limits.slots old.limits.bytes slots) ≡ Ok after =
    sym (ap (λ (l : StoreLimits). rest_of (slots_in l l.slots l.bytes slots)) c.limits-limits.ensures.limits) ∙ c.in_ok-rest.ensures in
    let x = readable (slots_in old.limits old.limits.slots old.limits.bytes slots) after rest in
    let longer : eqb (length after) 0 ≡ false = sym c.is_empty.ensures ∙ c.if-not-is_empty.true in
    let whole : table_in old.limits octets ≡ Err fault.Length =
    table_read old.limits octets slots after x.0 x.1 read x.2 rest ∙ ap (λ (b : Bool). let r : Result (List SlotData) StateFault = cond b (Ok x.0) (Err fault.Length) in r) longer in
    record { replaced = refused (table_in old.limits octets) old (Err fault.Length) fault.Length whole refl }

pub fill-requires : goal.fill-requires
fill-requires c =
    let old = c.args.store.now in
    let slots = c.in_ok-slots.slots.now in
    let after = c.in_ok-rest.rest.now in
    let rest : rest_of (slots_in old.limits old.limits.slots old.limits.bytes slots) ≡ Ok after =
    sym (ap (λ (l : StoreLimits). rest_of (slots_in l l.slots l.bytes slots)) c.limits-limits.ensures.limits) ∙ c.in_ok-rest.ensures in
    record { read = readable (slots_in old.limits old.limits.slots old.limits.bytes slots) after rest }

pub returns : goal.returns
returns c =
    let old = c.args.store.now in
    let octets = c.args.octets.now in
    let slots = c.in_ok-slots.slots.now in
    let after = c.in_ok-rest.rest.now in
    let read : counted_in old.limits octets ≡ Ok slots = sym (ap (λ (l : StoreLimits). counted_in l octets) c.limits-limits.ensures.limits) ∙ c.in_ok-slots.ensures in
    let rest : rest_of (slots_in old.limits old.limits.slots old.limits.bytes slots) ≡ Ok after =
    sym (ap (λ (l : StoreLimits). rest_of (slots_in l l.slots l.bytes slots)) c.limits-limits.ensures.limits) ∙ c.in_ok-rest.ensures in
    let x = readable (slots_in old.limits old.limits.slots old.limits.bytes slots) after rest in
    let ended : eqb (length after) 0 ≡ true = sym c.is_empty.ensures ∙ c.if-not-is_empty.false in
    let whole : table_in old.limits octets ≡ Ok x.0 =
    table_read old.limits octets slots after x.0 x.1 read x.2 rest ∙ ap (λ (b : Bool). let r : Result (List SlotData) StateFault = cond b (Ok x.0) (Err fault.Length) in r) ended in
    record { replaced = replaced (table_in old.limits octets) old c.fill.new.store x.0 whole (c.fill.ensures.filled x.0 x.1 x.2) }
