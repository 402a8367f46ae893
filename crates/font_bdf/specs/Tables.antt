-- What is written of a font: a table that makes a sign file whole.
use Rattle.std.specs.Prelude.{ℕ, Bool, true, false, ◌&&◌, ◌==◌, nat_le, List, [], ◌∷◌, ◌++◌, ◌≡◌, ◌⊎◌, Option, None, Some, IsSome, is_none, codes, length}
use Rattle.std.specs.Option.{option_map}
use Rattle.sign_font.specs.Limits.{first_fault}
use Rattle.sign_font.specs.Sign.{FontData, SignData}
use Rattle.sign_file.specs.SignFile.{FileData, file_of_octets}
use Rattle.font_bdf.specs.declared.fault.BdfProblem.{BdfProblem}
use Rattle.font_bdf.specs.declared.fault.BdfProblem.TheVariants.{NotTaken}
use Rattle.font_bdf.specs.declared.setting.FontSetting.{FontSetting}
use Rattle.font_bdf.specs.Font.{font_of_bdf}
use Rattle.font_bdf.specs.Listed.{font_listed}

-- the keys of a sign file before its fonts (own)
unfoldable pub front : List ℕ
front =
    codes "width = 1024\nheight = 128\nscheme = 'classic'\nmax_pages = 1\nslots = 1\nbytes = 0\nmax_string = 1\n"
    ++ codes "[defaults]\nfont = 1\nline = 3\npage = 3\npage_on = 0\npage_off = 0\nflash_on = 0\nflash_off = 0\nfore = 1\nback = 0\n"

-- whether a spacing is the one that was told, or where none was, at most 1 (own)
abbrev pub is_spaced : Option ℕ → ℕ → Bool
is_spaced None spacing = nat_le spacing 1
is_spaced (Some told) spacing = spacing == told

-- whether a spacing is the one that is asked for, or where none is, by as much as cells may be narrower (own)
abbrev pub is_told : FontSetting → ℕ → Bool
is_told setting spacing = of setting.written_spacing
  where
    of : Option ℕ → Bool
    of None = is_spaced setting.char_spacing spacing
    of (Some columns) = spacing == columns

-- whether there is one font, and it has the numbers of a setting (own)
abbrev pub is_one_font : FontSetting → List FontData → Bool
is_one_font setting [] = false
is_one_font setting (font ∷ []) =
    (font.number == setting.number) && ((font.version == setting.version)
    && (is_told setting font.char_spacing && (font.line_spacing == setting.line_spacing)))
is_one_font setting (font ∷ other ∷ fonts) = false

-- the sign whose default font has this number (own)
abbrev pub with_font : SignData → ℕ → SignData
with_font sign number = record sign { defaults = record sign.defaults { font = number } }

-- whether there is a sign file with one font, by a setting, whose sign has no fault where this is its default font (own)
unfoldable pub is_taken : FontSetting → Option FileData → Bool
is_taken setting None = false
is_taken setting (Some file) = is_one_font setting file.sign.fonts && is_none (first_fault (with_font file.sign setting.number))

-- the fonts of a sign file, where one is read (own)
unfoldable pub fonts_read : Option FileData → Option (List FontData)
fonts_read file = option_map (λ f. f.sign.fonts) file

-- how many permanent messages a sign file has, where one is read (own)
unfoldable pub messages_read : Option FileData → Option ℕ
messages_read file = option_map (λ f. length f.permanents) file

-- a text is the table of one font, by a setting, and nothing else: the octets of a sign file that ends with it are read so, signs
-- take the font, it is this one, with all of its cells, and there is no permanent message (own)
pub record IsTableOf (setting : FontSetting) (font : FontData) (text : List ℕ) : Type 0 where
  pub taken : is_taken setting (file_of_octets (front ++ text)) ≡ true
  pub same : fonts_read (file_of_octets (front ++ text)) ≡ Some (font ∷ [])
  pub alone : messages_read (file_of_octets (front ++ text)) ≡ Some 0

-- a text is the table of the font that octets are in BDF, by a setting (own)
abbrev pub IsFontTable : FontSetting → List ℕ → List ℕ → Type 0
IsFontTable setting octets text = (font : FontData) × (font_of_bdf setting octets ≡ Some font) × IsTableOf setting font text

-- octets are no font in BDF, by a setting; or they are one, and this is the problem that no sign takes it, since its number is 0 (own)
abbrev pub IsRefused : FontSetting → List ℕ → BdfProblem → Type 0
IsRefused setting octets problem =
    (font_of_bdf setting octets ≡ None) ⊎ ((problem ≡ NotTaken) × (setting.number ≡ 0) × IsSome (font_of_bdf setting octets))

-- whether there is a sign file whose sign has no fault where its default font has this number (own)
unfoldable pub is_sound : ℕ → Option FileData → Bool
is_sound number None = false
is_sound number (Some file) = is_none (first_fault (with_font file.sign number))

-- a text is the table of this font and nothing else: the octets of a sign file that ends with it are read so, signs take the font, and
-- there is no permanent message (own)
pub record IsTable (font : FontData) (text : List ℕ) : Type 0 where
  pub sound : is_sound font.number (file_of_octets (front ++ text)) ≡ true
  pub same : fonts_read (file_of_octets (front ++ text)) ≡ Some (font ∷ [])
  pub alone : messages_read (file_of_octets (front ++ text)) ≡ Some 0

-- a text is the table of the font that octets are as a table of NTCIP 1203 (own)
abbrev pub IsListedTable : List ℕ → List ℕ → Type 0
IsListedTable octets text = (font : FontData) × (font_listed octets ≡ Some font) × IsTable font text
