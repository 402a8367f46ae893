-- Digits and the number that they write.
use Rattle.std.proofs.Common.{◌≡◌, ℕ, ◌+◌, ◌-◌, ◌*◌, ◌<◌, ◌≤◌, take, true, List, [], ◌∷◌, length, get_or, refl, ap, ◌∙◌, arith}
use Rattle.std.specs.List.{list_all}
use Rattle.std.specs.Str.Parse.{digits_value}
use Rattle.std.specs.Char.{digit_value}
use Rattle.std.proofs.lemmas.Bool.{and_from}
use Rattle.std.proofs.lemmas.Int.Digits.{digits_value_more}
use Rattle.std.proofs.lemmas.List.{take_more}
use Rattle.std.proofs.lemmas.List.Folds.{list_all-append}
use Rattle.octet_text.specs.Digits.{is_digit}

-- one digit more
pub digits_more : (ds : List ℕ) (i : ℕ) → i < length ds → list_all is_digit (take i ds) ≡ true → is_digit (get_or ds i 0) ≡ true → list_all is_digit (take (i + 1) ds) ≡ true
digits_more ds i there before here =
    ap (list_all is_digit) (take_more ds i 0 there) ∙ list_all-append is_digit (take i ds) (get_or ds i 0 ∷ []) ∙ and_from (list_all is_digit (take i ds)) _ before (and_from (is_digit (get_or ds i 0)) true here refl)

pub number_more : (ds : List ℕ) (i number : ℕ) → i < length ds → number ≡ digits_value 10 (take i ds) → 48 ≤ get_or ds i 0 → get_or ds i 0 ≤ 57 → number * 10 + (get_or ds i 0 - 48) ≡ digits_value 10 (take (i + 1) ds)
number_more ds i number there is least most =
    let value : digit_value (get_or ds i 0) ≡ get_or ds i 0 - 48 = grind (arith, least, most) in
    omega (arith, digits_value_more 10 ds i there, value, is)
