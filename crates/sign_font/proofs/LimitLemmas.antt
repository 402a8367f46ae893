-- The limits over what was written, as the code tests them.
use Rattle.std.proofs.Common.{◌≡◌, ℕ, ◌<◌, Bool, true, ◌&&◌, nat_le, List, ◌∷◌, map, length, refl, sym, ap, ◌∙◌}
use Rattle.std.specs.List.{list_all}
use Rattle.std.proofs.lemmas.Bool.{and_parts, leb-true}
use Rattle.std.proofs.lemmas.List.{length-map}
use Rattle.std.proofs.lemmas.Simd.{map-map}
use Rattle.sign_font.specs.declared.parts.CellPart.{CellPart}
use Rattle.sign_font.specs.declared.parts.FontPart.{FontPart}
use Rattle.sign_font.specs.Sign.{CellData, FontData, cell_of, font_of}
use Rattle.sign_font.specs.Limits.{is_within, is_rising, is_font, is_cell}
use Rattle.sign_font.proofs.RisingLemmas.{rising_from_zero}

-- where each passes a test that asks for a number above 0, their numbers rise as they rise from above 0
all_rising : {X Y : Type 0} (test : Y → Bool) (number : Y → ℕ) (of : X → Y) (xs : List X) → ((y : Y) → test y ≡ true → 0 < number y) → list_all test (map of xs) ≡ true
    → is_rising (0 ∷ map (λ x. number (of x)) xs) ≡ is_rising (map number (map of xs))
all_rising test number of xs says all =
    sym (ap (λ ns. is_rising (0 ∷ ns)) (map-map number of xs)) ∙ rising_from_zero test number (map of xs) says all

-- the last of three tests decides where the others are passed
third : (a b r : Bool) → a ≡ true → b ≡ true → r ≡ (a && b && r)
third a b r p q = rw (p, q) refl

-- the fonts
pub fonts_decided : (fonts : List FontPart) (rising : Bool) → is_within 1 16 (length fonts) ≡ true → list_all is_font (map font_of fonts) ≡ true
    → rising ≡ is_rising (0 ∷ map (λ (x : FontPart). x.number) fonts)
    → rising ≡ (is_within 1 16 (length (map font_of fonts)) && list_all is_font (map font_of fonts) && is_rising (map (λ (y : FontData). y.number) (map font_of fonts)))
fonts_decided fonts rising count all is =
    let says : (y : FontData) → is_font y ≡ true → 0 < y.number = λ y e. leb-true 1 y.number (and_parts _ _ (and_parts _ _ e).0).0 in
    let on = is ∙ all_rising is_font (λ (y : FontData). y.number) font_of fonts says all in
    on ∙ third _ _ _ (ap (is_within 1 16) (length-map fonts font_of) ∙ count) all

-- the cells of a font
pub cells_decided : (height : ℕ) (cells : List CellPart) (rising : Bool) → nat_le (length cells) 255 ≡ true → list_all (is_cell height) (map cell_of cells) ≡ true
    → rising ≡ is_rising (0 ∷ map (λ (x : CellPart). x.number) cells)
    → rising ≡ (nat_le (length (map cell_of cells)) 255 && list_all (is_cell height) (map cell_of cells) && is_rising (map (λ (y : CellData). y.number) (map cell_of cells)))
cells_decided height cells rising count all is =
    let says : (y : CellData) → is_cell height y ≡ true → 0 < y.number = λ y e. leb-true 1 y.number (and_parts _ _ (and_parts _ _ (and_parts _ _ (and_parts _ _ e).0).0).0).0 in
    let on = is ∙ all_rising (is_cell height) (λ (y : CellData). y.number) cell_of cells says all in
    on ∙ third _ _ _ (ap (λ n. nat_le n 255) (length-map cells cell_of) ∙ count) all
