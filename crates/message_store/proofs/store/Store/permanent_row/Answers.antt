use Rattle.std.proofs.Common.{◌<◌, ap, ◌∙◌, sym, arith, List, ℕ, length}
use Rattle.std.proofs.lemmas.List.{get_or-map, length-map}
use Rattle.message_store.specs.Slot.{PermanentData, StoreData, permanent_of}
use Rattle.message_store.proofs.StoredLemmas.{seen}
use Rattle.message_store.proofs.store.Store.permanent_row.Goals as goal

pub returns-clause-short : goal.returns-clause-short
returns-clause-short c = let s = c.self.inside in let k = seen s.limits s.permanent.items s.slots s.texts c.args.self.now c.self.view_is c.self.invariant in
    let x = c.index-message.result.now in
    let below : c.args.index < length s.permanent.items = omega (arith, c.requires, k.permanent_is) in
    let each = c.self.invariant.fixed.each c.args.index (permanent_of x) (omega (arith, c.requires, k.permanent_is, length-map s.permanent.items permanent_of)) in
    let same = get_or-map permanent_of s.permanent.items c.args.index x (permanent_of x) below ∙ ap permanent_of (sym c.index-message.ensures) in
    omega (arith, each.multi, ap (λ (m : PermanentData). length m.multi) same, ap (λ (l : List ℕ). length l) c.deref.ensures.value, ap (λ (st : StoreData). st.limits.max_string) c.self.view_is)

pub returns-clause-ranged : goal.returns-clause-ranged
returns-clause-ranged c = let s = c.self.inside in let k = seen s.limits s.permanent.items s.slots s.texts c.args.self.now c.self.view_is c.self.invariant in
    let x = c.index-message.result.now in
    let below : c.args.index < length s.permanent.items = omega (arith, c.requires, k.permanent_is) in
    let each = c.self.invariant.fixed.each c.args.index (permanent_of x) (omega (arith, c.requires, k.permanent_is, length-map s.permanent.items permanent_of)) in
    let same = get_or-map permanent_of s.permanent.items c.args.index x (permanent_of x) below ∙ ap permanent_of (sym c.index-message.ensures) in
    record {
      from_one = omega (arith, each.priority, ap (λ (m : PermanentData). m.priority) same);
      beacon_flag = omega (arith, each.beacon, ap (λ (m : PermanentData). m.beacon) same);
      pixel_flag = omega (arith, each.pixel, ap (λ (m : PermanentData). m.pixel) same);
    }
