-- Tests of the numbers below another, and the number that bits write.
use Rattle.std.proofs.Common.{◌≡◌, ℕ, zero, suc, ◌+◌, ◌*◌, ◌^◌, ◌<◌, Bool, true, false, List, [], ◌∷◌, ◌++◌, map, refl, sym, ap, ◌∙◌, arith}
use Rattle.std.specs.Prelude.{if◌then◌else◌, ◌&&◌}
use Rattle.std.specs.List.{list_all, range_with_len}
use Rattle.std.proofs.Math.Nat.{pow-suc}
use Rattle.std.proofs.lemmas.Bool.{and_from}
use Rattle.std.proofs.lemmas.List.{map-append}
use Rattle.std.proofs.lemmas.List.Folds.{list_all-append, list_all_at}
use Rattle.std.proofs.lemmas.List.FromFn.{get_or-range_with_len, length-range_with_len}
use Rattle.font_bdf.specs.Bitmap.{bits_value}

next : (n : ℕ) → n + 1 ≡ suc n
next n = omega arith

-- one number more
pub range_more : (a n : ℕ) → range_with_len a (n + 1) ≡ range_with_len a n ++ (a + n) ∷ []
range_more a zero = ap (λ (k : ℕ). k ∷ []) (let e : a ≡ a + 0 = omega arith in e)
range_more a (suc n) =
    ap (λ (k : ℕ). range_with_len a k) (next (suc n))
    ∙ ap (λ (ks : List ℕ). a ∷ ks)
    (ap (λ (k : ℕ). range_with_len (a + 1) k) (sym (next n)) ∙ range_more (a + 1) n ∙ ap (λ (k : ℕ). range_with_len (a + 1) n ++ k ∷ []) (let e : a + 1 + n ≡ a + suc n = omega arith in e))

pub all_more : (test : ℕ → Bool) (n : ℕ) → list_all test (range_with_len 0 n) ≡ true → test n ≡ true → list_all test (range_with_len 0 (n + 1)) ≡ true
all_more test n before here =
    ap (list_all test) (range_more 0 n) ∙ list_all-append test (range_with_len 0 n) ((0 + n) ∷ [])
    ∙ and_from (list_all test (range_with_len 0 n)) (list_all test ((0 + n) ∷ [])) before (and_from (test (0 + n)) true (ap test (let e : 0 + n ≡ n = omega arith in e) ∙ here) refl)

pub all_stops : (test : ℕ → Bool) (n k : ℕ) → k < n → test k ≡ false → list_all test (range_with_len 0 n) ≡ false
all_stops test n k below here =
    list_all_at test (range_with_len 0 n) k 0 (omega (arith, below, length-range_with_len 0 n)) (ap test (get_or-range_with_len 0 n k 0 below ∙ (let e : 0 + k ≡ k = omega arith in e)) ∙ here)

pub map_more : {X : Type 0} (f : ℕ → X) (n : ℕ) → map f (range_with_len 0 (n + 1)) ≡ map f (range_with_len 0 n) ++ f n ∷ []
map_more f n =
    ap (map f) (range_more 0 n) ∙ map-append f (range_with_len 0 n) ((0 + n) ∷ []) ∙ ap (λ (k : ℕ). map f (range_with_len 0 n) ++ f k ∷ []) (let e : 0 + n ≡ n = omega arith in e)

-- one bit more
pub bits_more : (lit : ℕ → Bool) (first n : ℕ) → bits_value lit first (n + 1) ≡ 2 * bits_value lit first n + (if lit (first + n) then 1 else 0)
unfolding bits_value
bits_more lit first n = ap (bits_value lit first) (next n)

pub bits_none : (lit : ℕ → Bool) (first : ℕ) → bits_value lit first 0 ≡ 0
unfolding bits_value
bits_none lit first = refl

-- a test that fails decides for both
pub and_fails : (a b : Bool) → b ≡ false → (a && b) ≡ false
and_fails true b h = h
and_fails false b h = refl

pub octet_more : (lit : ℕ → Bool) (first n octet bit : ℕ) → octet ≡ bits_value lit first n → bit ≡ (if lit (first + n) then 1 else 0) → 2 * octet + bit ≡ bits_value lit first (n + 1)
octet_more lit first n octet bit value is =
    ap (λ (o : ℕ). 2 * o + bit) value ∙ ap (λ (k : ℕ). 2 * bits_value lit first n + k) is ∙ sym (bits_more lit first n)

pub octet_small : (n octet bit : ℕ) (b : Bool) → octet < 2 ^ n → bit ≡ (if b then 1 else 0) → 2 * octet + bit < 2 ^ (n + 1)
octet_small n octet bit true small is = omega (arith, small, is, pow-suc 2 n, ap (λ (k : ℕ). 2 ^ k) (next n))
octet_small n octet bit false small is = omega (arith, small, is, pow-suc 2 n, ap (λ (k : ℕ). 2 ^ k) (next n))

-- one octet more
pub octets_more : (f : ℕ → ℕ) (old new : List ℕ) (n octet : ℕ) → new ≡ old ++ octet ∷ [] → old ≡ map f (range_with_len 0 n) → octet ≡ f n → new ≡ map f (range_with_len 0 (n + 1))
octets_more f old new n octet is before here =
    is ∙ ap (λ (xs : List ℕ). xs ++ octet ∷ []) before ∙ ap (λ (k : ℕ). map f (range_with_len 0 n) ++ k ∷ []) here ∙ sym (map_more f n)
