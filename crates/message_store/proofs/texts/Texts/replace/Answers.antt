use Rattle.std.proofs.Common.{◌≡◌, ap, ◌∙◌, sym, arith, List, ℕ, None, length, map, slice_set, subst}
use Rattle.std.proofs.lemmas.List.{length-map, length-set}
use Rattle.message_store.specs.internal.Pool.{AreRegisters, text_in}
use Rattle.message_store.proofs.PoolLemmas.{kept}
use Rattle.message_store.proofs.RegisterLemmas.{forgets}
use Rattle.message_store.proofs.texts.Texts.replace.Goals as goal

pub index_mut-requires : goal.index_mut-requires
index_mut-requires c =
    let s = c.self.inside in
    let k = kept s.places s.pool.octets s.pool.room c.args.index c.args.self.now c.self.view_is c.self.invariant.placed c.requires.index in
    omega (arith, k.below, c.self.invariant.each)

pub replace_at-requires-clause-room : goal.replace_at-requires-clause-room
replace_at-requires-clause-room c =
    let s = c.self.inside in
    let k = kept s.places s.pool.octets s.pool.room c.args.index c.args.self.now c.self.view_is c.self.invariant.placed c.requires.index in
    omega (arith, k.used_is, k.size, k.room_is, c.requires.room)

pub invariant_of-self : goal.invariant_of-self
invariant_of-self c =
    let s = c.self.inside in
    let k = kept s.places s.pool.octets s.pool.room c.args.index c.args.self.now c.self.view_is c.self.invariant.placed c.requires.index in
    let texts = map (text_in s.pool.octets) s.places in
    let P : List (List ℕ) → Type 0 = AreRegisters (slice_set s.registers.items c.args.index None) in
    let long : length c.replace_at.new.places ≡ length s.places =
    sym (length-map c.replace_at.new.places (text_in c.replace_at.new.pool.octets)) ∙ ap (λ (l : List (List ℕ)). length l) c.replace_at.ensures.texts
    ∙ length-set texts c.args.index c.args.text.now ∙ length-map s.places (text_in s.pool.octets) in
    record {
      placed = c.replace_at.ensures.placed;
      within = omega (arith, c.replace_at.ensures.count, c.replace_at.ensures.room, k.used_is, k.size, k.room_is, c.requires.room);
      narrow = omega (arith, c.self.invariant.narrow, c.replace_at.ensures.room);
      each = length-set s.registers.items c.args.index None ∙ c.self.invariant.each ∙ sym long;
      behind = subst P (sym c.replace_at.ensures.texts) (forgets s.registers.items texts c.args.index c.args.text.now c.self.invariant.behind);
    }
