use Rattle.std.proofs.Common.{◌≡◌, ◌+◌, ◌++◌, ap, ◌∙◌, arith, List, ℕ, length, length-append, length-drop, map, slice_set, take, drop}
use Rattle.std.proofs.lemmas.List.{length-take-le}
use Rattle.message_store.specs.declared.places.Span.{Span}
use Rattle.message_store.specs.internal.Pool.{Reserve, moved, span_at, text_in}
use Rattle.message_store.proofs.PoolLemmas.{replaced_octets, replaced_spans, replaced-placed, replaced-texts, texts-over}
use Rattle.message_store.proofs.texts.replace_at.Goals as goal

-- the octets that are left when the text is taken out
left : (c : goal.After-put) → length c.take_out.new.pool.octets + (span_at c.args.places.now c.args.index).len ≡ length c.args.pool.now.octets
left c =
    let octets = c.args.pool.now.octets in
    let gone = span_at c.args.places.now c.args.index in
    let within = c.requires.placed.within c.args.index c.requires.index in
    let is = ap (λ (g : Span). take g.start octets ++ drop (g.start + g.len) octets) c.get-span.ensures in
    omega (
      arith,
      ap (λ (l : List ℕ). length l) (c.take_out.ensures.octets ∙ is),
      length-append (take gone.start octets) (drop (gone.start + gone.len) octets),
      length-take-le gone.start octets (omega (arith, within)),
      length-drop (gone.start + gone.len) octets,
      within,
    )

places : (c : goal.After-put) → c.put.new.self ≡ replaced_spans c.args.places.now c.args.index (length c.take_out.new.pool.octets) (length c.args.text.now)
places c =
    let spans = c.args.places.now in
    let gone = span_at spans c.args.index in
    c.put.ensures
    ∙ ap (λ (l : List Span). slice_set l c.args.index c.put_in-span.result) (c.take_out.ensures.places ∙ ap (λ (g : Span). map (moved (g.start + g.len) g.len) spans) c.get-span.ensures)
    ∙ ap (λ (s : Span). slice_set (map (moved (gone.start + gone.len) gone.len) spans) c.args.index s) c.put_in-span.ensures.place

pub returns-clause-texts : goal.returns-clause-texts
returns-clause-texts c =
    let octets = c.args.pool.now.octets in
    let spans = c.args.places.now in
    let text = c.args.text.now in
    let rest = length c.take_out.new.pool.octets in
    ap (λ (l : List Span). map (text_in c.put_in-span.new.pool.octets) l) (places c)
    ∙ ap (λ (l : List ℕ). map (text_in l) (replaced_spans spans c.args.index rest (length text)))
    (c.put_in-span.ensures.octets ∙ ap (λ (l : List ℕ). l ++ text) c.take_out.ensures.octets ∙ ap (λ (g : Span). replaced_octets octets g text) c.get-span.ensures)
    ∙ replaced-texts octets text spans c.args.index rest c.requires.placed c.requires.index (left c)

pub returns-clause-placed : goal.returns-clause-placed
returns-clause-placed c =
    let rest = length c.take_out.new.pool.octets in
    let size : length c.put_in-span.new.pool.octets ≡ rest + length c.args.text.now = ap (λ (l : List ℕ). length l) c.put_in-span.ensures.octets ∙ length-append c.take_out.new.pool.octets c.args.text.now in
    rw (places c, size) (replaced-placed c.args.places.now (length c.args.pool.now.octets) rest (length c.args.text.now) c.args.index c.requires.placed c.requires.index (left c))

pub returns-then-span-text-clause-texts : goal.returns-then-span-text-clause-texts
returns-then-span-text-clause-texts c =
    let octets = c.args.pool.now.octets in
    let spans = c.args.places.now in
    let text = c.args.text.now in
    ap (λ (r : Reserve). map (text_in r.octets) spans) c.put_over.ensures
    ∙ ap (λ (g : Span). map (text_in (take g.start octets ++ (text ++ drop (g.start + length text) octets))) spans) c.get-span.ensures
    ∙ texts-over octets text spans c.args.index c.requires.placed c.requires.index (omega (arith, c.if-span-text.true, ap (λ (s : Span). s.len) c.get-span.ensures))
