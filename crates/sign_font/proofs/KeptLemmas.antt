-- Cells as they are kept, at their font's height.
use Rattle.std.proofs.Common.{◌≡◌, ℕ, ◌==◌, List, [], ◌∷◌, ◌++◌, map, Option, Some, None, refl, sym, ap, ◌∙◌}
use Rattle.std.specs.Prelude.{find, option_map, IfSome}
use Rattle.std.proofs.lemmas.Simd.{map-map}
use Rattle.std.proofs.lemmas.List.{length-map, map-append}
use Rattle.sign_font.specs.declared.parts.CellPart.{CellPart}
use Rattle.sign_font.specs.declared.font.FontInfo.{FontInfo}
use Rattle.sign_font.specs.Cell.{SizedCell}
use Rattle.sign_font.specs.Sign.{CellData, cell_of, unsized, sized, cell_numbered}
use Rattle.sign_font.specs.Limits.{is_rising}
use Rattle.sign_font.specs.internal.Font.{AreNumbered, font_kept, IsFontKept}
use Rattle.sign_font.specs.Sound.{IsSoundFont}
use Rattle.sign_font.proofs.FindLemmas.{find-map}
use Rattle.sign_font.proofs.SoundLemmas.{found_holds}

-- one more cell
pub kept_more : (cells : List SizedCell) (parts : List CellPart) (cell : SizedCell) (part : CellPart) → map unsized cells ≡ map cell_of parts → unsized cell ≡ cell_of part
    → map unsized (cells ++ cell ∷ []) ≡ map cell_of (parts ++ part ∷ [])
kept_more cells parts cell part made same = simp map-append (rw (made, same) refl)

unsized_width : (found : Option SizedCell) → option_map (λ (cell : CellData). cell.width) (option_map unsized found) ≡ option_map (λ (cell : SizedCell). cell.width) found
unsized_width None = refl
unsized_width (Some cell) = refl

module _ (info : FontInfo) (cells : List SizedCell) (kept : IsFontKept info cells) (number : ℕ) where
  -- what the font answers is what is found among the cells as they are kept
  answered : (found : Option SizedCell) → find (λ (cell : SizedCell). cell.number == number) cells ≡ found
      → option_map (sized (font_kept info cells)) (cell_numbered (font_kept info cells) number) ≡ option_map (sized (font_kept info cells)) (option_map unsized found)
  answered found e = ap (option_map (sized (font_kept info cells))) (find-map (λ (cell : CellData). cell.number == number) unsized cells ∙ ap (option_map unsized) e)

  -- a cell at its font's height is the cell that is kept
  resized : (cell : SizedCell) → cell.height ≡ info.height → sized (font_kept info cells) (unsized cell) ≡ cell
  resized cell e = ap (λ h. record { number = cell.number; width = cell.width; height = h; bits = cell.bits }) (sym e)

  resized_found : (found : Option SizedCell) → IfSome found (λ cell. cell.height ≡ info.height) → option_map (sized (font_kept info cells)) (option_map unsized found) ≡ found
  resized_found None height = refl
  resized_found (Some cell) height = ap Some (resized cell height)

  -- a cell that is found among those that are kept is the font's
  pub cell_found : (found : Option SizedCell) → found ≡ find (λ (cell : SizedCell). cell.number == number) cells
      → found ≡ option_map (sized (font_kept info cells)) (cell_numbered (font_kept info cells) number)
  cell_found found is =
      let height : IfSome found (λ cell. cell.height ≡ info.height) = rw is (found_holds (λ cell. cell.height ≡ info.height) (λ (cell : SizedCell). cell.number == number) cells kept.heights) in
      sym (answered found (sym is) ∙ resized_found found height)

  -- and has the width of the font's
  pub width_found : option_map (λ (cell : SizedCell). cell.width) (find (λ (cell : SizedCell). cell.number == number) cells) ≡ option_map (λ (cell : CellData). cell.width) (cell_numbered (font_kept info cells) number)
  width_found =
      let found = find-map (λ (cell : CellData). cell.number == number) unsized cells in
      sym (ap (option_map (λ (cell : CellData). cell.width)) found ∙ unsized_width (find (λ (cell : SizedCell). cell.number == number) cells))

-- a font within its limits has at most 255 cells, whose numbers rise
pub numbered : (info : FontInfo) (cells : List SizedCell) → IsSoundFont (font_kept info cells) → AreNumbered cells
numbered info cells sound = record {
  count = rw (← length-map cells unsized) sound.count;
  rising = ap is_rising (sym (map-map (λ (cell : CellData). cell.number) unsized cells)) ∙ sound.rising;
}
