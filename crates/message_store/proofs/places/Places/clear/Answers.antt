use Rattle.std.proofs.Common.{ap, ◌∙◌, sym, List, ℕ, length, replicate}
use Rattle.message_store.specs.declared.places.Span.{Span}
use Rattle.message_store.specs.internal.Pool.{no_span, spans_of}
use Rattle.message_store.proofs.PlaceLemmas.{length-spans, none-spans}
use Rattle.message_store.proofs.places.Places.clear.Goals as goal

pub returns : goal.returns
returns c =
    let s = c.self.inside in
    let count = length s.starts.items in
    let starts = c.fill.ensures.items (λ (y : ℕ) e. e) ∙ ap (λ n. replicate n 0) s.starts.ok.0 in
    let lens = c.fill-2.ensures.items (λ (y : ℕ) e. e) ∙ ap (λ n. replicate n 0) (s.lens.ok.0 ∙ c.self.invariant) in
    ap (λ (l : List ℕ). spans_of l c.fill-2.new.self.items) starts
    ∙ ap (spans_of (replicate count 0)) lens
    ∙ none-spans count
    ∙ ap (λ n. replicate n no_span) (sym (length-spans s.starts.items s.lens.items c.self.invariant) ∙ ap (λ (l : List Span). length l) c.self.view_is)
