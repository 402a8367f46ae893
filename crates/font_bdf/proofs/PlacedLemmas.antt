-- A cell that is widened.
use Rattle.std.proofs.Common.{◌≡◌, ℕ, [], ◌∷◌, None, sym, ap, ◌∙◌}
use Rattle.std.specs.Prelude.{ℤ, ◌-ℤ◌}
use Rattle.std.specs.Int.{int_max}
use Rattle.std.specs.Option.{option_map}
use Rattle.font_bdf.specs.Bitmap.{Drawing}
use Rattle.font_bdf.specs.Placed.{cell_with, fitting, wide_of, widened, widened_cells}

-- what doesn't fit the wider cell isn't taken
pub widened_none : (drawing wider : Drawing) (number : ℕ) (wide w : ℤ) (height h : ℕ) → wider ≡ widened drawing → w ≡ wide_of drawing wide → h ≡ height
    → fitting wider w h ≡ None → widened_cells drawing number wide height ≡ None
widened_none drawing wider number wide w height h same columns rows none =
    let moved : fitting wider w h ≡ fitting (widened drawing) (wide_of drawing wide) height =
    ap (λ (x : Drawing). fitting x w h) same ∙ ap (λ (z : ℤ). fitting (widened drawing) z h) columns ∙ ap (λ (k : ℕ). fitting (widened drawing) (wide_of drawing wide) k) rows in
    ap (option_map (λ (width : ℕ). cell_with (widened drawing) number height width ∷ [])) (sym moved ∙ none)

-- columns from the first of two to the last of two others
pub columns_apart : (columns last begin end edge e f b : ℤ) → columns ≡ last -ℤ begin → last ≡ int_max end edge → end ≡ e → edge ≡ f → begin ≡ b → columns ≡ int_max e f -ℤ b
columns_apart columns last begin end edge e f b apart most one other first =
    apart ∙ ap (λ (z : ℤ). z -ℤ begin) (most ∙ ap (λ (z : ℤ). int_max z edge) one ∙ ap (λ (z : ℤ). int_max e z) other) ∙ ap (λ (z : ℤ). int_max e f -ℤ z) first
