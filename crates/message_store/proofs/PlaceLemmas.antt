-- Places whose beginnings and lengths are kept apart.
use Rattle.std.proofs.Common.{◌≡◌, ℕ, zero, suc, ◌+◌, ◌-◌, ◌<◌, List, [], ◌∷◌, ◌++◌, map, take, drop, length, replicate, slice_set, slice_index_or, refl, sym, ap, ◌∙◌, arith, append_assoc}
use Rattle.std.proofs.lemmas.List.{drop_more, get_or-append_right, length-map, length-take-le, map-append, set_at, take_more}
use Rattle.message_store.specs.declared.places.Span.{Span}
use Rattle.message_store.specs.internal.Pool.{moved, moved_start, no_span, span_at, spans_of}

-- one more number of a list has been changed
pub one-changed : (f : ℕ → ℕ) (xs now : List ℕ) (k d x : ℕ) → k < length xs → now ≡ map f (take k xs) ++ drop k xs → x ≡ f (slice_index_or now k d)
    → slice_set now k x ≡ map f (take (k + 1) xs) ++ drop (k + 1) xs
one-changed f xs now k d x below so_far is =
    let here = slice_index_or xs k d in
    let front = map f (take k xs) in
    let count : length front ≡ k = length-map (take k xs) f ∙ length-take-le k xs (omega (arith, below)) in
    let parts : now ≡ front ++ here ∷ drop (k + 1) xs = so_far ∙ ap (λ l. front ++ l) (drop_more xs k d below) in
    let read : slice_index_or now k d ≡ here = ap (λ l. slice_index_or l k d) parts ∙ get_or-append_right front (here ∷ drop (k + 1) xs) k k d count (omega arith)
    ∙ ap (λ n. slice_index_or (here ∷ drop (k + 1) xs) n d) (let none : k - k ≡ 0 = omega arith in none) in
    ap (λ l. slice_set l k x) parts
    ∙ set_at front here (drop (k + 1) xs) x k count
    ∙ ap (λ y. front ++ y ∷ drop (k + 1) xs) (is ∙ ap f read)
    ∙ sym (append_assoc front (f here ∷ []) (drop (k + 1) xs))
    ∙ ap (λ l. l ++ drop (k + 1) xs) (sym (ap (map f) (take_more xs k d below) ∙ map-append f (take k xs) (here ∷ [])))

-- there are as many places as beginnings
pub length-spans : (starts lens : List ℕ) → length lens ≡ length starts → length (spans_of starts lens) ≡ length starts
length-spans [] lens same = refl
length-spans (start ∷ starts) [] same = absurd (omega (arith, same))
length-spans (start ∷ starts) (len ∷ lens) same = ap suc (length-spans starts lens (omega (arith, same)))

get-spans : (starts lens : List ℕ) (i : ℕ) → length lens ≡ length starts → i < length starts
    → span_at (spans_of starts lens) i ≡ record { start = slice_index_or starts i 0; len = slice_index_or lens i 0 }
get-spans [] lens i same below = absurd (omega (arith, below))
get-spans (start ∷ starts) [] i same below = absurd (omega (arith, same))
get-spans (start ∷ starts) (len ∷ lens) zero same below = refl
get-spans (start ∷ starts) (len ∷ lens) (suc i) same below = get-spans starts lens i (omega (arith, same)) (omega (arith, below))

-- a place is replaced
pub set-spans : (starts lens : List ℕ) (i start len : ℕ) → length lens ≡ length starts → i < length starts
    → spans_of (slice_set starts i start) (slice_set lens i len) ≡ slice_set (spans_of starts lens) i (record { start = start; len = len })
set-spans [] lens i s n same below = absurd (omega (arith, below))
set-spans (start ∷ starts) [] i s n same below = absurd (omega (arith, same))
set-spans (start ∷ starts) (len ∷ lens) zero s n same below = refl
set-spans (start ∷ starts) (len ∷ lens) (suc i) s n same below =
    ap (λ (l : List Span). let first : Span = record { start = start; len = len } in first ∷ l) (set-spans starts lens i s n (omega (arith, same)) (omega (arith, below)))

-- every beginning has moved
pub map-spans : (end len : ℕ) (starts lens : List ℕ) → spans_of (map (moved_start end len) starts) lens ≡ map (moved end len) (spans_of starts lens)
map-spans end len [] lens = refl
map-spans end len (start ∷ starts) [] = refl
map-spans end len (start ∷ starts) (n ∷ lens) =
    ap (λ (l : List Span). let first : Span = record { start = moved_start end len start; len = n } in first ∷ l) (map-spans end len starts lens)

pub none-spans : (count : ℕ) → spans_of (replicate count 0) (replicate count 0) ≡ replicate count no_span
none-spans zero = refl
none-spans (suc count) = ap (λ (l : List Span). no_span ∷ l) (none-spans count)

-- what is kept of places, for one of them
pub record IsPlace (starts lens : List ℕ) (places : List Span) (i : ℕ) : Type 0 where
  pub start_in : i < length starts
  pub len_in : i < length lens
  pub is : span_at places i ≡ record { start = slice_index_or starts i 0; len = slice_index_or lens i 0 }

pub place : (starts lens : List ℕ) (places : List Span) (i : ℕ) → spans_of starts lens ≡ places → length lens ≡ length starts → i < length places → IsPlace starts lens places i
place starts lens places i seen same below =
    let there : i < length starts = omega (arith, below, ap (λ (l : List Span). length l) seen, length-spans starts lens same) in
    record {
      start_in = there;
      len_in = omega (arith, there, same);
      is = ap (λ (l : List Span). span_at l i) (sym seen) ∙ get-spans starts lens i same there;
    }
