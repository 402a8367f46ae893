-- The table of tags: their names, and the forms of what follows a name.
use Rattle.std.specs.Prelude.{◌≡◌, ℕ, false, true, List, ◌++◌, Some, None, codes, option_map}
use Rattle.std.specs.Str.{str_to_ascii_lowercase}
use Rattle.multi_tag.specs.declared.name.Name.{Name}
use Rattle.multi_tag.specs.declared.name.Name.TheVariants as names
use Rattle.multi_tag.specs.declared.tag.Tag.{Tag}
use Rattle.multi_tag.specs.declared.tag.Tag.TheVariants.{NewPage, NewLine, LineJust, PageJust, Font, CharSpacing, CharSpacingEnd, PageTime, Flash, FlashEnd, Fore, Back, Rect, HexChar}
use Rattle.multi_tag.specs.Octet.{comma, letter_o, letter_t}
use Rattle.multi_tag.specs.Just.{line_just_of, page_just_of}
use Rattle.multi_tag.specs.Form.{Form, nothing, d, d?, h, ◌means◌, ◌or◌, after, between}

-- a row of the table: a name, and the form of what follows it (NTCIP 1203 v03, MULTI)
pub record Row : Type 1 where
  pub name : List ℕ
  pub rest : Form Tag

-- the table, in small letters; d stands for a number, d? for one or none, h for a hexadecimal
-- number (NTCIP 1203 v03, MULTI; the ranges of 'nl', 'sc' and 'fl' are own)
abbrev pub table : Name → Row
table names.NewPage = record { name = codes "np"; rest = nothing NewPage }
table names.NewLine = record { name = codes "nl"; rest = d? 0 255 means NewLine }
table names.LineJust = record { name = codes "jl"; rest = d? 2 5 means (λ just. LineJust (option_map line_just_of just)) }
table names.PageJust = record { name = codes "jp"; rest = d? 2 4 means (λ just. PageJust (option_map page_just_of just)) }
table names.Font = record {
  name = codes "fo";
  rest =
      nothing (Font None)
      or d 1 255 means (λ n. Font (Some (record { number = n; version = None })))
      or between comma (d 1 255) (h 0 65535) means (λ (n, v). Font (Some (record { number = n; version = Some v })));
}
table names.CharSpacing = record { name = codes "sc"; rest = d 0 255 means CharSpacing }
table names.CharSpacingEnd = record { name = codes "/sc"; rest = nothing CharSpacingEnd }
table names.PageTime = record {
  name = codes "pt";
  rest =
      d? 0 255 means (λ on. PageTime on None)
      or between letter_o (d? 0 255) (d? 0 255) means (λ (on, off). PageTime on off);
}
table names.Flash = record {
  name = codes "fl";
  rest =
      nothing (Flash false None None)
      or after letter_t (d? 0 255) means (λ on. Flash false on None)
      or after letter_t (between letter_o (d? 0 255) (d? 0 255)) means (λ (on, off). Flash false on off)
      or after letter_o (d? 0 255) means (λ off. Flash true None off)
      or after letter_o (between letter_t (d? 0 255) (d? 0 255)) means (λ (off, on). Flash true on off);
}
table names.FlashEnd = record { name = codes "/fl"; rest = nothing FlashEnd }
table names.Fore = record { name = codes "cf"; rest = d? 0 9 means Fore }
table names.Back = record { name = codes "pb"; rest = d? 0 9 means Back }
table names.Rect = record {
  name = codes "tr";
  rest =
      between comma (d 0 99999) (between comma (d 0 99999) (between comma (d 0 99999) (d 0 99999))) means
      (λ (x, (y, (w, h))). Rect x y w h);
}
table names.HexChar = record { name = codes "hc"; rest = h 1 65535 means HexChar }

-- small letters spell a tag: a name of the table, and then a rest in the form of its row (NTCIP 1203 v03, MULTI)
unfoldable pub SpellsSmall : List ℕ → Tag → Type 0
SpellsSmall octets tag = (name : Name) × (rest : List ℕ) × (octets ≡ (table name).name ++ rest) × (table name).rest rest tag

-- a body spells a tag, with its letters in either case (NTCIP 1203 v03, MULTI)
unfoldable pub Spells : List ℕ → Tag → Type 0
Spells body tag = SpellsSmall (str_to_ascii_lowercase body) tag

-- a name of the table begins the octets (NTCIP 1203 v03, MULTI)
unfoldable pub HasNameAtFront : List ℕ → Type 0
HasNameAtFront octets = (name : Name) × (rest : List ℕ) × (octets ≡ (table name).name ++ rest)

-- a name of the table begins the body, with its letters in either case (NTCIP 1203 v03, MULTI)
unfoldable pub HasName : List ℕ → Type 0
HasName body = HasNameAtFront (str_to_ascii_lowercase body)

-- LAWS
