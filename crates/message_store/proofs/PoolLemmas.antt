-- Texts in one pool of octets: where each stands, and what is left when one is replaced.
use Rattle.std.proofs.Common.{◌≡◌, ℕ, zero, suc, ◌+◌, ◌-◌, ◌<◌, ◌≤◌, ◌⊎◌, inl, inr, List, [], ◌∷◌, ◌++◌, map, take, drop, length, replicate, slice_set, slice_index_or, refl, sym, ap, ◌∙◌, arith, length-append, length-drop, length-set, append_assoc}
use Rattle.std.specs.List.{sum_by}
use Rattle.std.proofs.lemmas.Bool.{cases_order}
use Rattle.std.proofs.lemmas.Bool.Decides.{leb_tells}
use Rattle.std.proofs.lemmas.List.{ext_get_or, get_or-map, get_or-set_same, get_or-set_other, length-map, length-take-le, take_at, take_all, drop_at, drop-drop, drop-append-le, take-append-le, take-append-drop}
use Rattle.std.proofs.lemmas.List.Sums.{sum_by-cons, sum_by-set}
use Rattle.std.proofs.Math.Seq.{drop-append-add}
use Rattle.message_store.specs.declared.places.Span.{Span}
use Rattle.message_store.specs.internal.Pool.{ArePlaced, AreApart, Pool, moved, moved_start, no_span, span_at, text_in, used}

-- ---- a part of a list

-- a part of the front is not changed by what is after the front
part-before : (front behind : List ℕ) (start len : ℕ) → start + len ≤ length front → take len (drop start (front ++ behind)) ≡ take len (drop start front)
part-before front behind start len within =
    ap (take len) (drop-append-le start front behind (omega (arith, within)))
    ∙ take-append-le len (drop start front) behind (omega (arith, within, length-drop start front))

-- a part after the front
part-behind : (front behind : List ℕ) (at start len : ℕ) → start ≡ length front + at → take len (drop start (front ++ behind)) ≡ take len (drop at behind)
part-behind front behind at start len is = ap (λ n. take len (drop n (front ++ behind))) is ∙ ap (take len) (drop-append-add front behind at)

-- a part that ends before a place stays when what is after the place is replaced
kept-before : (xs others : List ℕ) (place start len : ℕ) → place ≤ length xs → start + len ≤ place → take len (drop start (take place xs ++ others)) ≡ take len (drop start xs)
kept-before xs others place start len there within =
    let short : start + len ≤ length (take place xs) = omega (arith, within, length-take-le place xs there) in
    part-before (take place xs) others start len short
    ∙ sym (part-before (take place xs) (drop place xs) start len short)
    ∙ ap (λ l. take len (drop start l)) (take-append-drop place xs)

-- ---- where texts begin

-- a place beside the `len` octets from `start` on, and where it begins when these are taken out
abbrev Moves : (start len : ℕ) → Span → ℕ → Type 0
Moves start len span begins = ((span.start + span.len ≤ start) × (begins ≡ span.start)) ⊎ ((start + len ≤ span.start) × (begins + len ≡ span.start))

moves : (start len : ℕ) (span : Span) → (span.start + span.len ≤ start) ⊎ (start + len ≤ span.start) → Moves start len span (moved_start (start + len) len span.start)
moves start len span beside = elim (leb_tells (start + len) span.start) [
  | inl (is, behind) ↦ elim beside [
    | inl before ↦ rw is (inl (before, omega (arith, before, behind)))
    | inr after ↦ rw is (inr (after, omega (arith, after)))
  ]
  | inr (is, before) ↦ elim beside [
    | inl there ↦ rw is (inl (there, refl))
    | inr after ↦ absurd (omega (arith, before, after))
  ]
]

-- no place moves where no octets are taken out
pub none-moved : (end len : ℕ) (spans : List Span) → len ≡ 0 → map (moved end len) spans ≡ spans
none-moved end len [] none = refl
none-moved end len (span ∷ spans) none =
    let start : moved_start end len span.start ≡ span.start = elim (leb_tells end span.start) [ inl (is, behind) ↦ rw is (omega (arith, none)) | inr (is, before) ↦ rw is refl ] in
    ap (λ n. let s : Span = record { start = n; len = span.len } in s ∷ map (moved end len) spans) start
    ∙ ap (λ l. span ∷ l) (none-moved end len spans none)

-- ---- the sums of the lengths

size-of : (octets : List ℕ) (span : Span) → span.start + span.len ≤ length octets → length (text_in octets span) ≡ span.len
size-of octets span within = length-take-le span.len (drop span.start octets) (omega (arith, within, length-drop span.start octets))

lens-are : (octets : List ℕ) (spans : List Span) → ((i : ℕ) → i < length spans → (span_at spans i).start + (span_at spans i).len ≤ length octets)
    → sum_by length (map (text_in octets) spans) ≡ sum_by (λ span. span.len) spans
lens-are octets [] within = refl
lens-are octets (span ∷ spans) within =
    sum_by-cons length (text_in octets span) (map (text_in octets) spans)
    ∙ ap (λ n. n + sum_by length (map (text_in octets) spans)) (size-of octets span (within 0 (omega arith)))
    ∙ ap (λ n. span.len + n) (lens-are octets spans (λ i below. within (suc i) (omega (arith, below))))
    ∙ sym (sum_by-cons (λ (s : Span). s.len) span spans)

-- the texts have all octets
pub used-placed : (octets : List ℕ) (spans : List Span) → ArePlaced spans (length octets) → sum_by length (map (text_in octets) spans) ≡ length octets
used-placed octets spans placed = lens-are octets spans placed.within ∙ placed.all

moved-lens : (end len : ℕ) (spans : List Span) → sum_by (λ span. span.len) (map (moved end len) spans) ≡ sum_by (λ span. span.len) spans
moved-lens end len [] = refl
moved-lens end len (span ∷ spans) =
    sum_by-cons (λ (s : Span). s.len) (moved end len span) (map (moved end len) spans)
    ∙ ap (λ n. span.len + n) (moved-lens end len spans)
    ∙ sym (sum_by-cons (λ (s : Span). s.len) span spans)

-- ---- empty texts

none-at : (count i : ℕ) → span_at (replicate count no_span) i ≡ no_span
none-at zero i = refl
none-at (suc count) zero = refl
none-at (suc count) (suc i) = none-at count i

no-lens : (count : ℕ) → sum_by (λ span. span.len) (replicate count no_span) ≡ 0
no-lens zero = refl
no-lens (suc count) = sum_by-cons (λ (s : Span). s.len) no_span (replicate count no_span) ∙ omega (arith, no-lens count)

-- empty texts are placed among no octets
pub none-placed : (count : ℕ) → ArePlaced (replicate count no_span) 0
none-placed count = record {
  all = no-lens count;
  within = λ i below. let is = none-at count i in omega (arith, ap (λ (s : Span). s.start) is, ap (λ (s : Span). s.len) is);
  apart = λ i j below there other. let is = none-at count i in inl (omega (arith, ap (λ (s : Span). s.start) is, ap (λ (s : Span). s.len) is));
}

pub no-texts : (count : ℕ) → map (text_in []) (replicate count no_span) ≡ replicate count []
no-texts zero = refl
no-texts (suc count) = ap (λ l. [] ∷ l) (no-texts count)

-- ---- a text is replaced

-- the places after the text of an index was taken out, and put in after the others with this many octets
abbrev pub replaced_spans : List Span → ℕ → ℕ → ℕ → List Span
replaced_spans spans i rest count =
    let gone = span_at spans i in
    slice_set (map (moved (gone.start + gone.len) gone.len) spans) i (record { start = rest; len = count })

-- the octets after a text was taken out, and put in after the others
abbrev pub replaced_octets : List ℕ → Span → List ℕ → List ℕ
replaced_octets octets gone text = (take gone.start octets ++ drop (gone.start + gone.len) octets) ++ text

other : (k i : ℕ) → (k < i) ⊎ (i < k) → k ≡ i → ⊥
other k i apart same = elim apart [ inl less ↦ absurd (omega (arith, less, same)) | inr more ↦ absurd (omega (arith, more, same)) ]

place-same : (spans : List Span) (i rest count : ℕ) → i < length spans → span_at (replaced_spans spans i rest count) i ≡ record { start = rest; len = count }
place-same spans i rest count below =
    let gone = span_at spans i in
    let moves = moved (gone.start + gone.len) gone.len in
    get_or-set_same (map moves spans) i (record { start = rest; len = count }) no_span (omega (arith, below, length-map spans moves))

place-other : (spans : List Span) (i rest count k : ℕ) → k < length spans → (k ≡ i → ⊥)
    → span_at (replaced_spans spans i rest count) k ≡ moved ((span_at spans i).start + (span_at spans i).len) (span_at spans i).len (span_at spans k)
place-other spans i rest count k below differs =
    let gone = span_at spans i in
    let moves = moved (gone.start + gone.len) gone.len in
    get_or-set_other (map moves spans) i k (record { start = rest; len = count }) no_span differs ∙ get_or-map moves spans k no_span no_span below

other-moves : (spans : List Span) (size i k : ℕ) → ArePlaced spans size → i < length spans → k < length spans → (k ≡ i → ⊥)
    → Moves (span_at spans i).start (span_at spans i).len (span_at spans k) (moved_start ((span_at spans i).start + (span_at spans i).len) (span_at spans i).len (span_at spans k).start)
other-moves spans size i k placed below there differs = moves (span_at spans i).start (span_at spans i).len (span_at spans k) (placed.apart k i there below differs)

moved-within : (start len size rest : ℕ) (span : Span) (begins : ℕ) → Moves start len span begins → start + len ≤ size → span.start + span.len ≤ size → rest + len ≡ size → begins + span.len ≤ rest
moved-within start len size rest span begins moved gone within is = elim moved [
  | inl (before, same) ↦ omega (arith, before, same, gone, is)
  | inr (after, less) ↦ omega (arith, after, less, within, is)
]

moved-apart : (start len : ℕ) (a b : Span) (at to : ℕ) → Moves start len a at → Moves start len b to → AreApart a b → (at + a.len ≤ to) ⊎ (to + b.len ≤ at)
moved-apart start len a b at to first second apart = elim first [
  | inl (before, same) ↦ elim second [
    | inl (before', same') ↦ elim apart [ inl left ↦ inl (omega (arith, same, same', left)) | inr right ↦ inr (omega (arith, same, same', right)) ]
    | inr (after', less') ↦ inl (omega (arith, before, same, after', less'))
  ]
  | inr (after, less) ↦ elim second [
    | inl (before', same') ↦ inr (omega (arith, after, less, before', same'))
    | inr (after', less') ↦ elim apart [ inl left ↦ inl (omega (arith, less, less', left)) | inr right ↦ inr (omega (arith, less, less', right)) ]
  ]
]

other-within : (spans : List Span) (size rest i count k : ℕ) → ArePlaced spans size → i < length spans → rest + (span_at spans i).len ≡ size → k < length spans → (k ≡ i → ⊥)
    → (span_at (replaced_spans spans i rest count) k).start + (span_at (replaced_spans spans i rest count) k).len ≤ rest
other-within spans size rest i count k placed below is there differs =
    let place = place-other spans i rest count k there differs in
    let gone = span_at spans i in
    let within = moved-within gone.start gone.len size rest (span_at spans k) _ (other-moves spans size i k placed below there differs) (placed.within i below) (placed.within k there) is in
    omega (arith, within, ap (λ (s : Span). s.start) place, ap (λ (s : Span). s.len) place)

-- the texts are placed when one is replaced
pub replaced-placed : (spans : List Span) (size rest count i : ℕ) → ArePlaced spans size → i < length spans → rest + (span_at spans i).len ≡ size
    → ArePlaced (replaced_spans spans i rest count) (rest + count)
replaced-placed spans size rest count i placed below is =
    let gone = span_at spans i in
    let moves = moved (gone.start + gone.len) gone.len in
    let new : Span = record { start = rest; len = count } in
    let long : length (map moves spans) ≡ length spans = length-map spans moves in
    let size_is : length (replaced_spans spans i rest count) ≡ length spans = length-set (map moves spans) i new ∙ long in
    let here = place-same spans i rest count below in record {
      all = omega (
        arith,
        sum_by-set (λ (s : Span). s.len) (map moves spans) i new no_span (omega (arith, below, long)),
        ap (λ (s : Span). s.len) (get_or-map moves spans i no_span no_span below),
        moved-lens (gone.start + gone.len) gone.len spans,
        placed.all,
        is,
      );
      within = λ k there. elim (cases_order k i) [
        | inl same ↦ let place = ap (span_at (replaced_spans spans i rest count)) same ∙ here in omega (arith, ap (λ (s : Span). s.start) place, ap (λ (s : Span). s.len) place)
        | inr differs ↦ omega (arith, other-within spans size rest i count k placed below is (omega (arith, there, size_is)) (other k i differs))
      ];
      apart = λ j k there there' differ. elim (cases_order j i) [
        | inl same ↦ elim (cases_order k i) [
          | inl same' ↦ absurd (differ (same ∙ sym same'))
          | inr differs' ↦
              let place = ap (span_at (replaced_spans spans i rest count)) same ∙ here in
              inr (omega (arith, ap (λ (s : Span). s.start) place, other-within spans size rest i count k placed below is (omega (arith, there', size_is)) (other k i differs')))
        ]
        | inr differs ↦ elim (cases_order k i) [
          | inl same' ↦
              let place = ap (span_at (replaced_spans spans i rest count)) same' ∙ here in
              inl (omega (arith, ap (λ (s : Span). s.start) place, other-within spans size rest i count j placed below is (omega (arith, there, size_is)) (other j i differs)))
          | inr differs' ↦
              let first = place-other spans i rest count j (omega (arith, there, size_is)) (other j i differs) in
              let second = place-other spans i rest count k (omega (arith, there', size_is)) (other k i differs') in
              rw (first, second) (moved-apart gone.start gone.len (span_at spans j) (span_at spans k) _ _
              (other-moves spans size i j placed below (omega (arith, there, size_is)) (other j i differs))
              (other-moves spans size i k placed below (omega (arith, there', size_is)) (other k i differs'))
              (placed.apart j k (omega (arith, there, size_is)) (omega (arith, there', size_is)) differ))
        ]
      ];
    }

-- another text stays when one is taken out and put in after the others
kept-text : (octets text : List ℕ) (gone span : Span) (begins : ℕ) → gone.start + gone.len ≤ length octets → span.start + span.len ≤ length octets → Moves gone.start gone.len span begins
    → take span.len (drop begins (replaced_octets octets gone text)) ≡ text_in octets span
kept-text octets text gone span begins there within moved =
    let end = gone.start + gone.len in
    let front = take gone.start octets in
    let behind = drop end octets in
    let first : length front ≡ gone.start = length-take-le gone.start octets (omega (arith, there)) in
    let parts = ap (λ l. take span.len (drop begins l)) (append_assoc front behind text) in
    elim moved [
      | inl (before, same) ↦ parts ∙ ap (λ n. take span.len (drop n (front ++ (behind ++ text)))) same
          ∙ kept-before octets (behind ++ text) gone.start span.start span.len (omega (arith, there)) before
      | inr (after, less) ↦
          let at = span.start - end in
          parts ∙ part-behind front (behind ++ text) at begins span.len (omega (arith, first, after, less))
          ∙ part-before behind text at span.len (omega (arith, length-drop end octets, within, after))
          ∙ ap (take span.len) (drop-drop at end octets ∙ ap (λ n. drop n octets) (let e : end + at ≡ span.start = omega (arith, after) in e))
    ]

-- the text of an index is replaced, and every other one stays
pub replaced-texts : (octets text : List ℕ) (spans : List Span) (i rest : ℕ) → ArePlaced spans (length octets) → i < length spans → rest + (span_at spans i).len ≡ length octets
    → map (text_in (replaced_octets octets (span_at spans i) text)) (replaced_spans spans i rest (length text)) ≡ slice_set (map (text_in octets) spans) i text
replaced-texts octets text spans i rest placed below is =
    let gone = span_at spans i in
    let end = gone.start + gone.len in
    let moves = moved end gone.len in
    let count = length text in
    let new = replaced_spans spans i rest count in
    let now = replaced_octets octets gone text in
    let texts = map (text_in octets) spans in
    let ys = take gone.start octets ++ drop end octets in
    let within = placed.within i below in
    let left : length ys ≡ rest = omega (arith, length-append (take gone.start octets) (drop end octets), length-take-le gone.start octets (omega (arith, within)), length-drop end octets, within, is) in
    let long : length new ≡ length spans = length-set (map moves spans) i (record { start = rest; len = count }) ∙ length-map spans moves in
    let all : length (map (text_in now) new) ≡ length spans = length-map new (text_in now) ∙ long in
    ext_get_or [] (map (text_in now) new) (slice_set texts i text) (all ∙ sym (length-set texts i text ∙ length-map spans (text_in octets))) (λ k there.
    let inside : k < length spans = omega (arith, there, all) in
    get_or-map (text_in now) new k no_span [] (omega (arith, there, all, long))
    ∙ elim (cases_order k i) [
      | inl same ↦ ap (λ n. text_in now (span_at new n)) same ∙ ap (text_in now) (place-same spans i rest count below)
          ∙ ap (take count) (drop_at ys text rest left) ∙ take_all count text (omega arith)
          ∙ sym (ap (λ n. slice_index_or (slice_set texts i text) n []) same ∙ get_or-set_same texts i text [] (omega (arith, below, length-map spans (text_in octets))))
      | inr differs ↦ ap (text_in now) (place-other spans i rest count k inside (other k i differs))
          ∙ kept-text octets text gone (span_at spans k) _ within (placed.within k inside) (other-moves spans (length octets) i k placed below inside (other k i differs))
          ∙ sym (get_or-set_other texts i k text [] (other k i differs) ∙ get_or-map (text_in octets) spans k no_span [] inside)
    ])

-- another text stays when one is put over one of the same length
kept-under : (octets text : List ℕ) (gone span : Span) → length text ≡ gone.len → gone.start + gone.len ≤ length octets → AreApart span gone
    → text_in (take gone.start octets ++ (text ++ drop (gone.start + length text) octets)) span ≡ text_in octets span
kept-under octets text gone span size there apart =
    let end = gone.start + length text in
    let front = take gone.start octets in
    let first : length front ≡ gone.start = length-take-le gone.start octets (omega (arith, there)) in
    elim apart [
      | inl before ↦ kept-before octets (text ++ drop end octets) gone.start span.start span.len (omega (arith, there)) before
      | inr after ↦
          let at = span.start - end in
          part-behind front (text ++ drop end octets) (length text + at) span.start span.len (omega (arith, first, after, size))
          ∙ part-behind text (drop end octets) at (length text + at) span.len refl
          ∙ ap (take span.len) (drop-drop at end octets ∙ ap (λ n. drop n octets) (let e : end + at ≡ span.start = omega (arith, after, size) in e))
    ]

-- a text is put over one of the same length
pub texts-over : (octets text : List ℕ) (spans : List Span) (i : ℕ) → ArePlaced spans (length octets) → i < length spans → length text ≡ (span_at spans i).len
    → map (text_in (take (span_at spans i).start octets ++ (text ++ drop ((span_at spans i).start + length text) octets))) spans ≡ slice_set (map (text_in octets) spans) i text
texts-over octets text spans i placed below size =
    let gone = span_at spans i in
    let front = take gone.start octets in
    let behind = drop (gone.start + length text) octets in
    let now = front ++ (text ++ behind) in
    let texts = map (text_in octets) spans in
    let within = placed.within i below in
    let all : length (map (text_in now) spans) ≡ length spans = length-map spans (text_in now) in
    ext_get_or [] (map (text_in now) spans) (slice_set texts i text) (all ∙ sym (length-set texts i text ∙ length-map spans (text_in octets))) (λ k there.
    let inside : k < length spans = omega (arith, there, all) in
    get_or-map (text_in now) spans k no_span [] inside
    ∙ elim (cases_order k i) [
      | inl same ↦ ap (λ n. text_in now (span_at spans n)) same
          ∙ ap (take gone.len) (drop_at front (text ++ behind) gone.start (length-take-le gone.start octets (omega (arith, within))))
          ∙ take_at text behind gone.len size
          ∙ sym (ap (λ n. slice_index_or (slice_set texts i text) n []) same ∙ get_or-set_same texts i text [] (omega (arith, below, length-map spans (text_in octets))))
      | inr differs ↦ kept-under octets text gone (span_at spans k) size within (placed.apart k i inside below (other k i differs))
          ∙ sym (get_or-set_other texts i k text [] (other k i differs) ∙ get_or-map (text_in octets) spans k no_span [] inside)
    ])

-- ---- one pool

-- what is kept of a pool, for one of its texts
pub record IsKept (spans : List Span) (octets : List ℕ) (room i : ℕ) (pool : Pool) : Type 0 where
  pub below : i < length spans
  pub used_is : used pool ≡ length octets
  pub size : length (slice_index_or pool.texts i []) ≡ (span_at spans i).len
  pub room_is : pool.room ≡ room

pub kept : (spans : List Span) (octets : List ℕ) (room i : ℕ) (pool : Pool) → record { texts = map (text_in octets) spans; room = room } ≡ pool → ArePlaced spans (length octets)
    → i < length pool.texts → IsKept spans octets room i pool
kept spans octets room i pool seen placed there =
    let texts = ap (λ (p : Pool). p.texts) seen in
    let below : i < length spans = omega (arith, there, ap (λ (ts : List (List ℕ)). length ts) texts, length-map spans (text_in octets)) in
    record {
      below = below;
      used_is = ap (λ (ts : List (List ℕ)). sum_by length ts) (sym texts) ∙ used-placed octets spans placed;
      size = ap (λ (ts : List (List ℕ)). length (slice_index_or ts i [])) (sym texts)
          ∙ ap (λ (l : List ℕ). length l) (get_or-map (text_in octets) spans i no_span [] below) ∙ size-of octets (span_at spans i) (placed.within i below);
      room_is = sym (ap (λ (p : Pool). p.room) seen);
    }
