-- What digits write: one digit more, how large it is, and the forms of numbers.
use Rattle.std.proofs.Common.{◌≡◌, ℕ, ◌+◌, ◌*◌, ◌^◌, ◌<◌, ◌≤◌, List, [], ◌∷◌, ◌++◌, Option, Some, inl, inr, length, ap, add-one, arith, lit<, ◌&&◌, None, refl, sym}
use Rattle.std.specs.Prelude.{unwrap_or, nat_le}
use Rattle.std.specs.List.{All}
use Rattle.std.specs.Char.{digit_value}
use Rattle.std.proofs.lemmas.List.{length-append}
use Rattle.std.proofs.lemmas.List.Elements.{All-nil, All-head, All-tail}
use Rattle.std.proofs.lemmas.Nat.{mul-le}
use Rattle.std.proofs.Math.Nat.{mul_assoc, add-mul, pow-zero, pow-suc, pow-le-pow_right}
use Rattle.multi_tag.specs.Number.{IsDigit, number}
use Rattle.multi_tag.specs.Form.{d?, IsNumber}
use Rattle.multi_tag.specs.Part.{written, in_range}
use Rattle.std.proofs.lemmas.Option.{cond_some, none-some, same_Some}
use Rattle.std.proofs.lemmas.Bool.{le-leb}
use Rattle.std.proofs.lemmas.Bool.Decides.{nat_tests}

-- one digit more
pub number-push : (base : ℕ) (ds : List ℕ) (c : ℕ) → number base (ds ++ c ∷ []) ≡ number base ds * base + digit_value c
number-push base [] c = rw pow-zero (omega arith)
number-push base (d ∷ ds) c =
    let power : base ^ length (ds ++ c ∷ []) ≡ base ^ length ds * base = rw (length-append, add-one) (pow-suc base (length ds)) in
    rw power (omega (arith, mul_assoc (digit_value d) (base ^ length ds) base, number-push base ds c, add-mul (digit_value d * base ^ length ds) (number base ds) base))

-- the number that digits write is below the power of their count
pub number-lt : (base : ℕ) (ds : List ℕ) → All (IsDigit base) ds → number base ds < base ^ length ds
number-lt base [] each = rw (pow-zero base) (lit< tt)
number-lt base (d ∷ ds) each =
    let head : digit_value d < base = All-head (IsDigit base) d ds each in
    let rest = number-lt base ds (All-tail (IsDigit base) d ds each) in
    let most : (digit_value d + 1) * base ^ length ds ≤ base * base ^ length ds = mul-le (digit_value d + 1) (base ^ length ds) base (base ^ length ds) (omega arith) (omega arith) in
    let cut = add-mul (digit_value d) 1 (base ^ length ds) in
    let power = pow-suc base (length ds) in
    omega (arith, most, cut, power)

-- so does what they write, where there may be none
pub written-push : (base : ℕ) (ds : List ℕ) (c : ℕ) → written base (ds ++ c ∷ []) ≡ Some (unwrap_or (written base ds) 0 * base + digit_value c)
written-push base [] c = ap Some (number-push base [] c)
written-push base (d ∷ ds) c = ap Some (number-push base (d ∷ ds) c)

pub written-lt : (base : ℕ) (ds : List ℕ) → All (IsDigit base) ds → unwrap_or (written base ds) 0 < base ^ length ds
written-lt base [] each = rw (pow-zero base) (lit< tt)
written-lt base (d ∷ ds) each = number-lt base (d ∷ ds) each

-- an octet with a large value is no digit
pub no_digit : (base octet : ℕ) → base ≤ digit_value octet → ¬ (IsDigit base octet)
no_digit base octet large small = absurd (omega arith)

-- octets that all have a property have none among them that lacks it
pub no_other : (P : ℕ → Type 0) (octet : ℕ) (front rest : List ℕ) → ¬ (P octet) → All P (front ++ octet ∷ rest) → ⊥
no_other P octet [] rest none all = none (All-head P octet rest all)
no_other P octet (c ∷ front) rest none all = no_other P octet front rest none (All-tail P c (front ++ octet ∷ rest) all)

-- the octets of a number or none are digits
pub digits_optional : (low high : ℕ) (octets : List ℕ) (v : Option ℕ) → d? low high octets v → All (IsDigit 10) octets
digits_optional low high octets v (inl (empty, is)) = rw empty (All-nil (IsDigit 10))
digits_optional low high octets v (inr (n, f, is)) = f.each

-- a number is written
pub number_written : (base most low high : ℕ) (octets : List ℕ) (v : ℕ) → IsNumber base most low high octets v → written base octets ≡ Some v
number_written base most low high [] v f = absurd (f.least refl)
number_written base most low high (c ∷ cs) v f = ap Some (sym f.spelled)

-- and back, where there is room for all that so many digits write
pub written_number : (base most low high : ℕ) (octets : List ℕ) (v : ℕ) → All (IsDigit base) octets → length octets ≤ most → Some v ≡ written base octets → base ^ most ≤ high + 1 → 2 ≤ base → low ≤ v → IsNumber base most low high octets v
written_number base most low high [] v each count e room least above = absurd (none-some v (sym e))
written_number base most low high (c ∷ cs) v each count e room least above =
    let is : v ≡ number base (c ∷ cs) = same_Some v (number base (c ∷ cs)) e in
    let small = number-lt base (c ∷ cs) each in
    let power : base ^ length (c ∷ cs) ≤ base ^ most = pow-le-pow_right (omega arith) count in
    record { each = each; least = λ empty. cc; count = count; spelled = is; above = above; below = omega (arith, is, small, power) }

-- d? is what is written and in the range
pub optional_written : (low high : ℕ) (octets : List ℕ) (o : Option ℕ) → d? low high octets o → (length octets ≤ 5) × (in_range low high (written 10 octets) ≡ Some o)
optional_written low high octets o (inl (empty, is)) = rw (empty, is) (omega arith, refl)
optional_written low high octets o (inr (n, f, is)) =
    (f.count, rw (number_written 10 5 low high octets n f, is, le-leb low n f.above, le-leb n high f.below) refl)

pub written_optional : (low high : ℕ) (octets : List ℕ) (o : Option ℕ) → All (IsDigit 10) octets → length octets ≤ 5 → in_range low high (written 10 octets) ≡ Some o → d? low high octets o
written_optional low high [] o each count e = inl (refl, sym (same_Some None o e))
written_optional low high (c ∷ cs) o each count e =
    let n = number 10 (c ∷ cs) in
    let (both, same) = cond_some (nat_le low n && nat_le n high) (Some n) o e in
    inr (n, record { each = each; least = λ empty. cc; count = count; spelled = refl; above = grind (arith, nat_tests); below = grind (arith, nat_tests) }, sym same)
