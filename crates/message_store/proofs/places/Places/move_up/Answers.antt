use Rattle.std.proofs.Common.{◌≡◌, ap, ◌∙◌, sym, List, ℕ, length, map}
use Rattle.std.proofs.lemmas.List.{length-map, with_items_is}
use Rattle.message_store.specs.internal.Pool.{moved, moved_start, spans_of}
use Rattle.message_store.proofs.PlaceLemmas.{map-spans}
use Rattle.message_store.proofs.places.Places.move_up.Goals as goal

pub returns : goal.returns
returns c =
    let s = c.self.inside in
    let moves = map (moved_start c.args.end c.args.len) in
    let long : length c.move_starts.new.starts ≡ s.starts.len = ap (λ (l : List ℕ). length l) c.move_starts.ensures
    ∙ length-map c.deref_mut.result.now (moved_start c.args.end c.args.len) ∙ ap (λ (l : List ℕ). length l) c.deref_mut.ensures.value ∙ sym s.starts.ok.0 in
    ap (λ (l : List ℕ). spans_of l s.lens.items) (with_items_is s.starts c.move_starts.new.starts long ∙ c.move_starts.ensures ∙ ap moves c.deref_mut.ensures.value)
    ∙ map-spans c.args.end c.args.len s.starts.items s.lens.items
    ∙ ap (map (moved c.args.end c.args.len)) c.self.view_is
