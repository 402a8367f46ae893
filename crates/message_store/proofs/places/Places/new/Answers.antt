use Rattle.std.proofs.Common.{ap, ◌∙◌, List, ℕ, replicate}
use Rattle.message_store.specs.internal.Pool.{spans_of}
use Rattle.message_store.proofs.PlaceLemmas.{none-spans}
use Rattle.message_store.proofs.places.Places.new.Goals as goal

pub returns : goal.returns
returns c =
    ap (λ (l : List ℕ). spans_of l c.in_ok-from_elem-2.field-0.items) (c.in_ok-from_elem.ensures.items_if_clones_equal (λ (y : ℕ) e. e))
    ∙ ap (spans_of (replicate c.args.count 0)) (c.in_ok-from_elem-2.ensures.items_if_clones_equal (λ (y : ℕ) e. e))
    ∙ none-spans c.args.count
