-- Digits at the front of octets: as they are read, and that no other digits stand there.
use Rattle.std.proofs.Common.{◌≡◌, ℕ, ◌+◌, ◌-◌, ◌*◌, ◌^◌, ◌<◌, ◌≤◌, ◌==◌, false, List, [], ◌∷◌, ◌++◌, Option, Some, length, take, drop, get_or, refl, sym, ap, ◌∙◌, arith, append_assoc}
use Rattle.std.specs.Prelude.{unwrap_or, nat_lt}
use Rattle.std.specs.List.{All}
use Rattle.std.specs.Char.{digit_value, to_ascii_lowercase}
use Rattle.std.specs.Str.{str_to_ascii_lowercase}
use Rattle.std.proofs.lemmas.List.{length-append, take_rest}
use Rattle.std.proofs.lemmas.Option.{cond_some}
use Rattle.std.proofs.lemmas.Bool.{ltb-true, eq-eqb, false≢true}
use Rattle.std.proofs.lemmas.Bool.Decides.{nat_tests}
use Rattle.std.proofs.lemmas.Nat.{mul-le}
use Rattle.std.proofs.lemmas.List.Elements.{All-head, All-tail, All-push}
use Rattle.multi_tag.specs.Number.{IsDigit}
use Rattle.multi_tag.specs.Part.{IsCut, BeginsWithDigit, written, digit_of}
use Rattle.std.proofs.Math.Nat.{pow-le-pow_left, pow-le-pow_right}
use Rattle.multi_tag.proofs.NumberLemmas.{written-push, written-lt}

-- the octets begin with so many digits that write this, and the rest follows
pub record HasDigits (base count : ℕ) (octets : List ℕ) (value : Option ℕ) (rest : List ℕ) : Type 0 where
  pub digits : List ℕ
  pub whole : octets ≡ digits ++ rest
  pub each : All (IsDigit base) digits
  pub size : length digits ≡ count
  pub value_is : value ≡ written base digits

-- an octet that is a digit has its value
digit_is : (base digit octet : ℕ) → digit_of base octet ≡ Some digit → IsDigit base octet × (digit_value octet ≡ digit)
digit_is base digit octet e =
    let (small, same) = cond_some (nat_lt (digit_value octet) base) (digit_value octet) digit e in
    (ltb-true (digit_value octet) base small, same)

-- one digit more
pub one_digit_more : (base count digit octet : ℕ) (octets : List ℕ) (value : Option ℕ) (behind : List ℕ) → HasDigits base count octets value (octet ∷ behind) → digit_of base octet ≡ Some digit → HasDigits base (count + 1) octets (Some (unwrap_or value 0 * base + digit)) behind
one_digit_more base count digit octet octets value behind has e =
    let (small, same) = digit_is base digit octet e in
    record {
      digits = has.digits ++ octet ∷ [];
      whole = has.whole ∙ sym (append_assoc has.digits (octet ∷ []) behind);
      each = All-push (IsDigit base) has.digits octet has.each small;
      size = let s = has.size in simp length-append (omega arith);
      value_is = rw (has.value_is, ← same) (sym (written-push base has.digits octet));
    }

-- what digits write stays small
pub digits_small : (base count : ℕ) (octets : List ℕ) (value : Option ℕ) (rest : List ℕ) → HasDigits base count octets value rest → base ≤ 16 → count ≤ 7 → unwrap_or value 0 * base ≤ 4294967280
digits_small base count octets value rest has small few =
    let below : unwrap_or value 0 < base ^ count = rw (has.value_is, ← has.size) (written-lt base has.digits has.each) in
    let up = pow-le-pow_left small count in
    let most : 16 ^ count ≤ 16 ^ 7 = pow-le-pow_right (omega arith) few in
    let times = mul-le (unwrap_or value 0) base 268435455 16 (omega (arith, below, up, most)) small in
    omega (arith, times)

-- a digit is below the base
pub digit_small : (base digit octet : ℕ) → digit_of base octet ≡ Some digit → digit < base
digit_small base digit octet e = let (small, same) = digit_is base digit octet e in omega (arith, small, same)

-- digits at the front are one list, where one of the two is stopped by no digit, and the other by none unless it is as long
pub one_front : (base : ℕ) (a b x y : List ℕ) → All (IsDigit base) a → All (IsDigit base) b → (BeginsWithDigit base x → length b ≤ length a) → (BeginsWithDigit base y → ⊥) → a ++ x ≡ b ++ y → (a ≡ b) × (x ≡ y)
one_front base [] [] x y p q s t e = (refl, e)
one_front base [] (d ∷ b) [] y p q s t e = cc
one_front base [] (d ∷ b) (c ∷ x) y p q s t e =
    let h : c ≡ d = cc in
    absurd (omega (arith, s (rw h (All-head (IsDigit base) d b q))))
one_front base (c ∷ a) [] x [] p q s t e = cc
one_front base (c ∷ a) [] x (d ∷ y) p q s t e =
    let h : d ≡ c = cc in
    absurd (t (rw h (All-head (IsDigit base) c a p)))
one_front base (c ∷ a) (d ∷ b) x y p q s t e =
    let head : c ≡ d = cc in
    let tail : a ++ x ≡ b ++ y = cc in
    let r = one_front base a b x y (All-tail (IsDigit base) c a p) (All-tail (IsDigit base) d b q) (λ f. let l = s f in omega arith) t tail in
    let r0 = r.0 in
    let r1 = r.1 in
    (cc, r1)

-- where digits, no more than are read, stand before an octet that is none, those were cut off
pub cut_before : (base most octet : ℕ) (octets : List ℕ) (read : Option ℕ) (rest front behind : List ℕ) → IsCut base most octets read rest → octets ≡ front ++ octet ∷ behind → All (IsDigit base) front → length front ≤ most → ¬ (IsDigit base octet) → (read ≡ written base front) × (rest ≡ octet ∷ behind)
cut_before base most octet octets read rest front behind cut e each few none =
    let same = one_front base cut.digits front rest (octet ∷ behind) cut.each each (λ begins. let full = cut.stops begins in omega arith) none (sym cut.whole ∙ e) in
    (cut.value_is ∙ ap (written base) same.0, same.1)

-- octets begin with one octet at most, and one rest follows
pub one_first : {octets x y : List ℕ} {a b : ℕ} → octets ≡ a ∷ x → octets ≡ b ∷ y → (a ≡ b) × (x ≡ y)
one_first e f = (cc, cc)

pub other_first : {octets x y : List ℕ} {a b : ℕ} → (a == b) ≡ false → octets ≡ a ∷ x → octets ≡ b ∷ y → ⊥
other_first {a = a} {b = b} apart e f = false≢true (sym apart ∙ eq-eqb a b (one_first e f).0)

pub empty_or_not : {octet : ℕ} {octets behind : List ℕ} → octets ≡ [] → octets ≡ octet ∷ behind → ⊥
empty_or_not e f = cc

-- small letters for capital ones: of the first octet, and of the rest
pub small_front : (octets : List ℕ) (letter : ℕ) → 1 ≤ length octets → to_ascii_lowercase (get_or octets 0 0) ≡ letter → str_to_ascii_lowercase octets ≡ letter ∷ str_to_ascii_lowercase (take (length octets - 1) (drop 1 octets))
small_front [] letter some is = absurd (omega arith)
small_front (octet ∷ octets) letter some is = rw (take_rest (octet ∷ octets) 1, is) refl

pub small_empty : (octets : List ℕ) → length octets < 1 → str_to_ascii_lowercase octets ≡ []
small_empty [] none = refl
small_empty (octet ∷ octets) none = absurd (omega arith)

-- what is no letter, as a comma and a bracket, has no capital one
pub mark_alone : (mark octet : ℕ) → mark < 97 → to_ascii_lowercase octet ≡ mark → octet ≡ mark
mark_alone mark octet small is = grind (arith, nat_tests)
