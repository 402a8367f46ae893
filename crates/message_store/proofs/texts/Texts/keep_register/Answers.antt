use Rattle.std.proofs.Common.{◌≡◌, ap, ◌∙◌, sym, arith, [], Some, length-set, map, slice_index_or}
use Rattle.message_store.specs.internal.Pool.{Pool, register_behind, text_in}
use Rattle.message_store.proofs.PoolLemmas.{kept}
use Rattle.message_store.proofs.RegisterLemmas.{keeps}
use Rattle.message_store.proofs.texts.Texts.keep_register.Goals as goal

pub index_mut-requires : goal.index_mut-requires
index_mut-requires c =
    let s = c.self.inside in
    let k = kept s.places s.pool.octets s.pool.room c.args.index c.args.self.now c.self.view_is c.self.invariant.placed c.requires in
    omega (arith, k.below, c.self.invariant.each)

pub invariant_of-self : goal.invariant_of-self
invariant_of-self c =
    let s = c.self.inside in
    let k = kept s.places s.pool.octets s.pool.room c.args.index c.args.self.now c.self.view_is c.self.invariant.placed c.requires in
    let register = c.register-register.result in
    let is : register ≡ register_behind (slice_index_or (map (text_in s.pool.octets) s.places) c.args.index []) =
    c.register-register.ensures ∙ ap (λ (p : Pool). register_behind (slice_index_or p.texts c.args.index [])) (sym c.self.view_is) in
    record {
      placed = c.self.invariant.placed;
      within = c.self.invariant.within;
      narrow = c.self.invariant.narrow;
      each = length-set s.registers.items c.args.index (Some register) ∙ c.self.invariant.each;
      behind = keeps s.registers.items (map (text_in s.pool.octets) s.places) c.args.index register (omega (arith, k.below, c.self.invariant.each)) is c.self.invariant.behind;
    }
