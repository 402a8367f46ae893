use Rattle.std.proofs.Common.{rules, ap, ◌∙◌, sym, List, ℕ, None, [], length, map, replicate}
use Rattle.std.proofs.lemmas.List.{length-map}
use Rattle.message_store.specs.declared.places.Span.{Span}
use Rattle.message_store.specs.internal.Pool.{Pool, Reserve, text_in}
use Rattle.message_store.proofs.PoolLemmas.{no-texts}
use Rattle.message_store.proofs.RegisterLemmas.{none-texts}
use Rattle.message_store.proofs.texts.Texts.clear.Goals as goal

pub returns : goal.returns
returns c =
    let s = c.self.inside in
    let pool : List (List ℕ) → Pool = λ ts. record { texts = ts; room = s.pool.room } in
    ap (λ (r : Reserve). let p : Pool = record { texts = map (text_in r.octets) c.clear.new.self; room = r.room } in p) c.clear-2.ensures
    ∙ ap (λ (l : List Span). pool (map (text_in []) l)) c.clear.ensures
    ∙ ap pool (no-texts (length s.places))
    ∙ ap (λ n. pool (replicate n [])) (sym (length-map s.places (text_in s.pool.octets)))
    ∙ ap (λ (p : Pool). let q : Pool = record p { texts = replicate (length p.texts) [] } in q) c.self.view_is

pub invariant_of-self : goal.invariant_of-self
invariant_of-self c =
    let s = c.self.inside in
    let registers = c.fill.ensures.items (search rules) ∙ ap (λ n. replicate n None) (s.registers.ok.0 ∙ c.self.invariant.each) in
    none-texts c.clear.new.self c.clear-2.new.self c.fill.new.self.items (length s.places) s.pool.room c.clear.ensures c.clear-2.ensures registers c.self.invariant.narrow
