-- The limits of a sign in their order (own).
use Rattle.std.specs.Prelude.{ℕ, ◌+◌, ◌-◌, ◌*◌, ◌/◌, Bool, true, not, ◌&&◌, ◌==◌, nat_lt, nat_le, List, [], ◌∷◌, length, map, find, Option, option_map, is_some}
use Rattle.std.specs.List.{list_all, range_with_len}
use Rattle.sign_font.specs.declared.fault.SignFault.{SignFault}
use Rattle.sign_font.specs.declared.parts.Defaults.{Defaults}
use Rattle.sign_font.specs.declared.fault.SignFault.TheVariants.{BadSize, BadFont, BadCell, BadDefault, BadLimit}
use Rattle.sign_font.specs.Cell.{is_set}
use Rattle.sign_font.specs.Sign.{CellData, FontData, SignData, font_numbered}

-- a number from a lowest to a highest (own)
abbrev pub is_within : ℕ → ℕ → ℕ → Bool
is_within low high number = nat_le low number && nat_le number high

-- each number is below all those after it (own)
abbrev pub is_rising : List ℕ → Bool
is_rising [] = true
is_rising (number ∷ behind) = list_all (nat_lt number) behind && is_rising behind

-- the sign's width and height (own)
abbrev pub has_size : SignData → Bool
has_size sign = is_within 1 1024 sign.width && is_within 1 128 sign.height

-- a font's number and height (NTCIP 1203 v03, objects fontNumber and fontHeight)
abbrev pub is_font : FontData → Bool
is_font font = is_within 1 255 font.number && is_within 1 64 font.height

-- the number of the fonts, each of them, and their order (NTCIP 1203 v03, object fontTable)
abbrev pub has_fonts : SignData → Bool
has_fonts sign = is_within 1 16 (length sign.fonts)
    && list_all is_font sign.fonts
    && is_rising (map (λ font. font.number) sign.fonts)

-- the spare bits, after the pixels to the end of the last octet, are 0 (own)
abbrev pub is_clear_behind : List ℕ → ℕ → Bool
is_clear_behind octets pixels =
    list_all (λ place. not (is_set octets place)) (range_with_len pixels (8 * length octets - pixels))

-- a cell's number and width, and the length and the spare bits of its pixels (NTCIP 1203 v03, object characterTable)
abbrev pub is_cell : ℕ → CellData → Bool
is_cell height cell = is_within 1 65535 cell.number
    && is_within 1 64 cell.width
    && (length cell.bits == (height * cell.width + 7) / 8)
    && is_clear_behind cell.bits (height * cell.width)

-- the number of a font's cells, each of them, and their order (NTCIP 1203 v03, object characterTable)
abbrev pub has_cells : FontData → Bool
has_cells font = nat_le (length font.cells) 255
    && list_all (is_cell font.height) font.cells
    && is_rising (map (λ cell. cell.number) font.cells)

-- the default justifications of a line and a page, and the default colours (NTCIP 1203 v03, objects
-- defaultJustificationLine, defaultJustificationPage, defaultForegroundColor and defaultBackgroundColor)
abbrev pub are_known : Defaults → Bool
are_known defaults = is_within 2 5 defaults.line
    && is_within 2 4 defaults.page
    && nat_le defaults.fore 9
    && nat_le defaults.back 9

-- the default font is defined, and the other defaults are within their limits (NTCIP 1203 v03, object defaultFont)
abbrev pub has_defaults : SignData → Bool
has_defaults sign = is_some (font_numbered sign sign.defaults.font)
    && are_known sign.defaults

-- the number of pages of a message (NTCIP 1203 v03, object dmsMaxNumberPages)
abbrev pub has_pages : SignData → Bool
has_pages sign = is_within 1 255 sign.max_pages

-- the limits in their order, each with the fault of a sign that is outside it (own)
abbrev pub limits : SignData → List (Bool × SignFault)
limits sign = (has_size sign, BadSize) ∷ (has_fonts sign, BadFont) ∷ (list_all has_cells sign.fonts, BadCell)
    ∷ (has_defaults sign, BadDefault) ∷ (has_pages sign, BadLimit) ∷ []

-- the fault of the first limit that the sign is outside, if there is one (own)
abbrev pub first_fault : SignData → Option SignFault
first_fault sign = option_map (λ limit. limit.1) (find (λ limit. not limit.0) (limits sign))
