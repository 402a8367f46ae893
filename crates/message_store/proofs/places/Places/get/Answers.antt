use Rattle.std.proofs.Common.{◌≡◌, ap, ◌∙◌, sym, arith, slice_index_or}
use Rattle.std.proofs.lemmas.List.{get_or_default}
use Rattle.message_store.specs.declared.places.Span.{Span}
use Rattle.message_store.proofs.PlaceLemmas.{place}
use Rattle.message_store.proofs.places.Places.get.Goals as goal

pub index-requires : goal.index-requires
index-requires c = let s = c.self.inside in let k = place s.starts.items s.lens.items c.args.self.now c.args.index c.self.view_is c.self.invariant c.requires in omega (arith, k.start_in)

pub index-requires-2 : goal.index-requires-2
index-requires-2 c = let s = c.self.inside in let k = place s.starts.items s.lens.items c.args.self.now c.args.index c.self.view_is c.self.invariant c.requires in omega (arith, k.len_in)

pub returns : goal.returns
returns c =
    let s = c.self.inside in
    let k = place s.starts.items s.lens.items c.args.self.now c.args.index c.self.view_is c.self.invariant c.requires in
    let first : c.index.result.now ≡ slice_index_or s.starts.items c.args.index 0 = c.index.ensures ∙ get_or_default s.starts.items c.args.index c.index.result.now 0 k.start_in in
    let second : c.index-2.result.now ≡ slice_index_or s.lens.items c.args.index 0 = c.index-2.ensures ∙ get_or_default s.lens.items c.args.index c.index-2.result.now 0 k.len_in in
    ap (λ n. let span : Span = record { start = n; len = c.index-2.result.now } in span) first
    ∙ ap (λ n. let span : Span = record { start = slice_index_or s.starts.items c.args.index 0; len = n } in span) second
    ∙ sym k.is
