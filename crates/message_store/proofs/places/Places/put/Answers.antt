use Rattle.std.proofs.Common.{ap, ◌∙◌, arith, List, slice_set}
use Rattle.message_store.specs.declared.places.Span.{Span}
use Rattle.message_store.proofs.PlaceLemmas.{place, set-spans}
use Rattle.message_store.proofs.places.Places.put.Goals as goal

pub index_mut-requires : goal.index_mut-requires
index_mut-requires c = let s = c.self.inside in let k = place s.starts.items s.lens.items c.args.self.now c.args.index c.self.view_is c.self.invariant c.requires.index in omega (arith, k.start_in)

pub index_mut-requires-2 : goal.index_mut-requires-2
index_mut-requires-2 c = let s = c.self.inside in let k = place s.starts.items s.lens.items c.args.self.now c.args.index c.self.view_is c.self.invariant c.requires.index in omega (arith, k.len_in)

pub returns : goal.returns
returns c =
    let s = c.self.inside in
    let k = place s.starts.items s.lens.items c.args.self.now c.args.index c.self.view_is c.self.invariant c.requires.index in
    set-spans s.starts.items s.lens.items c.args.index c.args.span.start c.args.span.len c.self.invariant k.start_in
    ∙ ap (λ (l : List Span). slice_set l c.args.index c.args.span) c.self.view_is
