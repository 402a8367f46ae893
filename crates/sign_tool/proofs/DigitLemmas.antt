-- The colours of pixels as rows of digits.
use Rattle.std.proofs.Common.{◌≡◌, ℕ, suc, ◌+◌, ◌-◌, ◌*◌, ◌≤◌, List, [], ◌++◌, Some, length, drop, slice_range, refl, ap, ◌∙◌, arith, append-nil}
use Rattle.std.specs.List.{All, flat_map, range_with_len}
use Rattle.std.proofs.lemmas.List.Elements.{All-drop, All-take}
use Rattle.std.proofs.lemmas.List.{drop_all}
use Rattle.octet_text.proofs.TextLemmas.{flat_map_more}
use Rattle.sign_font.specs.Sign.{SignData}
use Rattle.multi_meaning.specs.declared.times.Shown.{Shown}
use Rattle.page_picture.specs.Shown.{colours}
use Rattle.sign_control.specs.Colours.{TellsColours}
use Rattle.sign_tool.specs.ServedTexts.{digit_row, digit_rows}

pub rows_none : (width : ℕ) (values : List ℕ) → digit_rows width values 0 ≡ []
unfolding digit_rows
rows_none width values = refl

-- one more row comes after those above it
pub rows_more : (width : ℕ) (values : List ℕ) (row same : ℕ) → same ≡ row → digit_rows width values (row + 1) ≡ digit_rows width values row ++ digit_row width values same
unfolding digit_rows
rows_more width values row same is =
    let next : row + 1 ≡ suc row = omega arith in
    ap (λ n. flat_map (digit_row width values) (range_with_len 0 n)) next ∙ flat_map_more (digit_row width values) 0 row same (omega (arith, is))

-- the colours of a row are those of some pixels
pub row_small : (values : List ℕ) (start end : ℕ) → All (λ c. c ≤ 9) values → All (λ c. c ≤ 9) (slice_range values start end)
row_small values start end small = All-take (λ c. c ≤ 9) (end - start) (drop start values) (All-drop (λ c. c ≤ 9) start values small)

-- where there is an octet for each pixel, all are the colours of what is shown
pub all_told : (sign : SignData) (text : List ℕ) (seen told : Shown) (old new : List ℕ) → length old ≡ sign.width * sign.height
    → TellsColours sign text seen old new (Some told) → (new ≡ colours sign text seen) × (told ≡ seen)
all_told sign text seen told old new whole tells =
    let none : length old ≤ sign.width * sign.height = omega (arith, whole) in
    (tells.0.1 ∙ ap (λ l. colours sign text seen ++ l) (drop_all (sign.width * sign.height) old none) ∙ append-nil (colours sign text seen), tells.1)
