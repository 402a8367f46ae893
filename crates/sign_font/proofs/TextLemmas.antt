-- The widths of a sign's fonts.
use Rattle.std.proofs.Common.{◌≡◌, ◌==◌, ℕ, Option, Some, None, refl, ap, ◌∙◌}
use Rattle.std.specs.Prelude.{IfSome, option_map}
use Rattle.std.specs.Option.{option_and_then}
use Rattle.sign_font.specs.Cell.{SizedCell}
use Rattle.sign_font.specs.Sign.{CellData, FontData, SignData, cell_numbered, font_numbered, sized}
use Rattle.sign_font.specs.Sound.{IsSound, IsSoundFont, IsWithin}
use Rattle.sign_font.specs.Text.{AreWidthsOf, width_in}
use Rattle.sign_font.proofs.SoundLemmas.{found_holds, width_sound}

-- the widths of a font's cells, as the sign tells them
sized_width : (font : FontData) (cell : Option CellData) → option_map (λ (c : SizedCell). c.width) (option_map (sized font) cell) ≡ option_map (λ (c : CellData). c.width) cell
sized_width font None = refl
sized_width font (Some cell) = refl

-- a sign's font has the widths that the sign tells
pub found_widths : (sign : SignData) (number : ℕ) (font : FontData) → font_numbered sign number ≡ Some font → AreWidthsOf sign number font
found_widths sign number font is octet =
    ap (λ (found : Option FontData). option_map (λ (c : SizedCell). c.width) (option_and_then (λ (f : FontData). option_map (sized f) (cell_numbered f octet)) found)) is ∙ sized_width font (cell_numbered font octet)

-- and they are within their limits
in_found : (octet : ℕ) (found : Option FontData) → IfSome found IsSoundFont
    → IfSome (option_map (λ (cell : SizedCell). cell.width) (option_and_then (λ (f : FontData). option_map (sized f) (cell_numbered f octet)) found)) (IsWithin 1 64)
in_found octet None sound = tt
in_found octet (Some font) sound = rw (sized_width font (cell_numbered font octet)) (width_sound font octet sound)

pub widths_sound : (sign : SignData) → IsSound sign → (number octet : ℕ) → IfSome (width_in sign number octet) (IsWithin 1 64)
widths_sound sign sound number octet = in_found octet (font_numbered sign number) (found_holds IsSoundFont (λ font. font.number == number) sign.fonts sound.each)
