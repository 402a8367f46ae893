-- Octets that are read pair by pair are those that the digits write.
use Rattle.std.proofs.Common.{◌≡◌, ℕ, ◌+◌, ◌*◌, ◌<◌, ◌≤◌, ◌/◌, ◌%◌, true, false, List, [], ◌∷◌, ◌++◌, length, take, drop, slice_index_or, slice_set, Option, None, Some, Result, Ok, Err, ◌⊎◌, inl, inr, refl, sym, ap, ◌∙◌, arith, append_assoc, bit_or}
use Rattle.std.proofs.lemmas.Bool.{cases_order}
use Rattle.std.proofs.lemmas.Nat.{le_or_l, le_or_r, or_of_8}
use Rattle.std.specs.Prelude.{◌==◌, nat_lt, if◌then◌else◌, unwrap_or}
use Rattle.std.proofs.lemmas.Grind.{take-set_at}
use Rattle.std.proofs.lemmas.List.{append-nil, drop_all, drop_more, take_all}
use Rattle.std.proofs.lemmas.Bool.Decides.{nat_tests}
use Rattle.hex.specs.declared.error.FromHexError.{FromHexError}
use Rattle.hex.specs.Hex.{decode_pairs, decode_sized, digit_or_error, hex_digit_value, ◌>>=◌}
use Rattle.sign_script.specs.Fields.{if_decoded}
use Rattle.sign_script.specs.internal.Hexadecimal.{before, digit_value, first_of, pair_of, pairs_of}

-- a digit is below 16
pub small_value : (c : ℕ) (v : ℕ) → hex_digit_value c ≡ Some v → nat_lt v 16 ≡ true
small_value c v is = grind (arith, nat_tests)

both_small : (v w : ℕ) → nat_lt v 16 ≡ true → nat_lt w 16 ≡ true → nat_lt (v * 16 + w) 256 ≡ true
both_small v w small small' = grind (arith, nat_tests)

pub value_small : (o : Option ℕ) → ((v : ℕ) → o ≡ Some v → nat_lt v 16 ≡ true) → unwrap_or o 256 ≤ 256
value_small None small = omega arith
value_small (Some v) small = grind (arith, nat_tests, small v refl)

-- one pair before others
one_pair : (h l i : ℕ) (o p : Option ℕ) (others : Result (List ℕ) FromHexError) → ((v : ℕ) → o ≡ Some v → nat_lt v 16 ≡ true) → ((v : ℕ) → p ≡ Some v → nat_lt v 16 ≡ true)
    → if_decoded ((digit_or_error h i o >>= (λ high. digit_or_error l (i + 1) p >>= (λ low. Ok (high * 16 + low)))) >>= (λ octet. others >>= (λ octets. Ok (octet ∷ octets))))
    ≡ first_of (if nat_lt (unwrap_or o 256 * 16 + unwrap_or p 256) 256 then Some (unwrap_or o 256 * 16 + unwrap_or p 256) else None) (if_decoded others)
one_pair h l i None p others small small' = let large : nat_lt (256 * 16 + unwrap_or p 256) 256 ≡ false = grind (arith, nat_tests) in rw large refl
one_pair h l i (Some v) None others small small' = let large : nat_lt (v * 16 + 256) 256 ≡ false = grind (arith, nat_tests) in rw large refl
one_pair h l i (Some v) (Some w) (Ok octets) small small' = rw (both_small v w (small v refl) (small' w refl)) refl
one_pair h l i (Some v) (Some w) (Err fault) small small' = rw (both_small v w (small v refl) (small' w refl)) refl

pub decoded : (i : ℕ) (text : List ℕ) → if_decoded (decode_pairs i text) ≡ pairs_of text
unfolding decode_pairs pairs_of
decoded i [] = refl
decoded i (digit ∷ []) = refl
decoded i (h ∷ l ∷ rest) =
    one_pair h l i (hex_digit_value h) (hex_digit_value l) (decode_pairs (i + 2) rest) (small_value h) (small_value l)
    ∙ ap (first_of (pair_of h l)) (decoded (i + 2) rest)

-- two digits by what they write together
small_pair : (value octet : ℕ) → value < 256 → octet ≡ value % 256 → (if nat_lt value 256 then Some value else None) ≡ Some octet
small_pair value octet small put =
    let test : nat_lt value 256 ≡ true = grind (arith, nat_tests) in
    let same : value ≡ octet = omega (arith, small, put) in
    rw test (ap (λ n. let o : Option ℕ = Some n in o) same)

large_pair : (value : ℕ) → 256 ≤ value → (if nat_lt value 256 then Some value else None) ≡ None
large_pair value large = let test : nat_lt value 256 ≡ false = grind (arith, nat_tests) in rw test refl

whole_or_more : (n : ℕ) → (n < 256) ⊎ (256 ≤ n)
whole_or_more n = elim (cases_order n 256) [
  | inl same ↦ inr (omega (arith, same))
  | inr other ↦ elim other [
    | inl less ↦ inl less
    | inr more ↦ inr (omega (arith, more))
  ]
]

-- what is combined to more than an octet has a part that is more
either : (a b : ℕ) → 256 ≤ bit_or a b → (256 ≤ a) ⊎ ((a < 256) × (256 ≤ b))
either a b large = elim (whole_or_more a) [
  | inr more ↦ inl more
  | inl less ↦ elim (whole_or_more b) [
    | inr more ↦ inr (less, more)
    | inl small ↦ absurd (omega (arith, large, or_of_8 a b less small))
  ]
]

-- no octets before others
pub none_before : (others : Option (List ℕ)) → others ≡ before [] others
none_before None = refl
none_before (Some xs) = refl

-- two digits, and those after them
two_digits : (digits : List ℕ) (i : ℕ) → 2 * i + 1 < length digits
    → pairs_of (drop (2 * i) digits) ≡ first_of (pair_of (slice_index_or digits (2 * i) 0) (slice_index_or digits (2 * i + 1) 0)) (pairs_of (drop (2 * (i + 1)) digits))
unfolding pairs_of
two_digits digits i below =
    let h = slice_index_or digits (2 * i) 0 in
    let l = slice_index_or digits (2 * i + 1) 0 in
    ap pairs_of (
    drop_more digits (2 * i) 0 (omega (arith, below))
    ∙ ap (λ (xs : List ℕ). h ∷ xs) (drop_more digits (2 * i + 1) 0 below)
    ∙ ap (λ n. h ∷ l ∷ drop n digits) (let e : 2 * i + 1 + 1 ≡ 2 * (i + 1) = omega arith in e)
    )

first_behind : (xs : List ℕ) (x : ℕ) (others : Option (List ℕ)) → before xs (first_of (Some x) others) ≡ before (xs ++ x ∷ []) others
first_behind xs x None = refl
first_behind xs x (Some ys) = ap (λ (l : List ℕ). let o : Option (List ℕ) = Some l in o) (sym (append_assoc xs (x ∷ []) ys))

-- one more octet is read
pub one_more : (digits octets : List ℕ) (i x : ℕ) → 2 * i + 1 < length digits → i < length octets → pairs_of digits ≡ before (take i octets) (pairs_of (drop (2 * i) digits))
    → pair_of (slice_index_or digits (2 * i) 0) (slice_index_or digits (2 * i + 1) 0) ≡ Some x
    → pairs_of digits ≡ before (take (i + 1) (slice_set octets i x)) (pairs_of (drop (2 * (i + 1)) digits))
one_more digits octets i x below there so_far is =
    so_far
    ∙ ap (before (take i octets)) (two_digits digits i below ∙ ap (λ (o : Option ℕ). first_of o (pairs_of (drop (2 * (i + 1)) digits))) is)
    ∙ first_behind (take i octets) x (pairs_of (drop (2 * (i + 1)) digits))
    ∙ ap (λ (l : List ℕ). before l (pairs_of (drop (2 * (i + 1)) digits))) (sym (take-set_at octets i (i + 1) x refl there))

-- digits that write no octet end it
pub none_read : (digits octets : List ℕ) (i : ℕ) → 2 * i + 1 < length digits → pairs_of digits ≡ before (take i octets) (pairs_of (drop (2 * i) digits))
    → pair_of (slice_index_or digits (2 * i) 0) (slice_index_or digits (2 * i + 1) 0) ≡ None → pairs_of digits ≡ None
none_read digits octets i below so_far is =
    so_far ∙ ap (before (take i octets)) (two_digits digits i below ∙ ap (λ (o : Option ℕ). first_of o (pairs_of (drop (2 * (i + 1)) digits))) is)

-- all octets are read
pub all_read : (digits octets : List ℕ) (i : ℕ) → length digits ≤ 2 * i → length octets ≤ i → pairs_of digits ≡ before (take i octets) (pairs_of (drop (2 * i) digits)) → pairs_of digits ≡ Some octets
unfolding pairs_of
all_read digits octets i done all so_far =
    so_far
    ∙ ap (λ (l : List ℕ). before (take i octets) (pairs_of l)) (drop_all (2 * i) digits done)
    ∙ ap (λ (l : List ℕ). let o : Option (List ℕ) = Some l in o) (append-nil (take i octets) ∙ take_all i octets all)

-- what is known after some pairs, whose values were combined: the octets that were read, or that a pair was none
pub record ReadsPairs (digits octets : List ℕ) (i combined : ℕ) : Type 0 where
  pub so_far : combined < 256 → pairs_of digits ≡ before (take i octets) (pairs_of (drop (2 * i) digits))
  pub none : 256 ≤ combined → pairs_of digits ≡ None

-- one more pair, whose value is put as an octet
pub one_value : (digits octets : List ℕ) (i combined value octet : ℕ) → 2 * i + 1 < length digits → i < length octets → octet ≡ value % 256
    → value ≡ digit_value (slice_index_or digits (2 * i) 0) * 16 + digit_value (slice_index_or digits (2 * i + 1) 0)
    → ReadsPairs digits octets i combined → ReadsPairs digits (slice_set octets i octet) (i + 1) (bit_or combined value)
one_value digits octets i combined value octet below there put is known =
    let pair = pair_of (slice_index_or digits (2 * i) 0) (slice_index_or digits (2 * i + 1) 0) in
    let fits : value < 256 → pair ≡ Some octet = λ small. rw (sym is) (small_pair value octet small put) in
    let passes : 256 ≤ value → pair ≡ None = λ large. rw (sym is) (large_pair value large) in
    record {
      so_far = λ small. one_more digits octets i octet below there (known.so_far (omega (arith, small, le_or_l combined value))) (fits (omega (arith, small, le_or_r combined value)));
      none = λ large. elim (either combined value large) [
        | inl before_it ↦ known.none before_it
        | inr here ↦ none_read digits octets i below (known.so_far here.0) (passes here.1)
      ];
    }

-- as many octets as were asked for
pub sized : (digits : List ℕ) (count : ℕ) (octets : Option (List ℕ)) → length digits / 2 ≡ count → (length digits % 2 ≡ 1 → ⊥) → pairs_of digits ≡ octets → octets ≡ if_decoded (decode_sized digits count)
sized digits count octets half even is =
    let odd : (length digits % 2 == 1) ≡ false = grind (arith, nat_tests) in
    let fits : (length digits / 2 == count) ≡ true = grind (arith, nat_tests) in
    sym (rw (odd, fits) (decoded 0 digits ∙ is))

-- all pairs were read, and one test tells whether each is an octet
pub finished : (digits octets : List ℕ) (count i combined : ℕ) → length digits / 2 ≡ count → (length digits % 2 ≡ 1 → ⊥) → length digits ≤ 2 * i → length octets ≤ i
    → ReadsPairs digits octets i combined → if_decoded (decode_sized digits count) ≡ (if nat_lt combined 256 then Some octets else None)
finished digits octets count i combined half even done all known = elim (whole_or_more combined) [
  | inl small ↦
      let test : nat_lt combined 256 ≡ true = grind (arith, nat_tests) in
      rw test (sym (sized digits count (Some octets) half even (all_read digits octets i done all (known.so_far small))))
  | inr large ↦
      let test : nat_lt combined 256 ≡ false = grind (arith, nat_tests) in
      rw test (sym (sized digits count None half even (known.none large)))
]
