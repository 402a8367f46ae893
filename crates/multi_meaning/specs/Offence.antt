-- The errors of an item after the items before it (NTCIP 1203 v03, dmsMultiSyntaxError).
use Rattle.std.specs.Prelude.{ℕ, ◌+◌, Bool, true, false, not, ◌||◌, ◌&&◌, ◌==◌, nat_lt, List, [], ◌∷◌, Option, Some, None}
use Rattle.std.specs.List.{count_by, list_any, find}
use Rattle.std.specs.Option.{option_map, option_map_or}
use Rattle.multi_tag.specs.declared.tag.Tag.TheVariants.{NewPage, NewLine, Font, Rect}
use Rattle.multi_tag.specs.Just.{line_number, page_number}
use Rattle.sign_font.specs.declared.parts.LineFill.{LineFill}
use Rattle.sign_font.specs.Sign.{SignData, FontData, CellData, font_numbered, cell_numbered}
use Rattle.multi_meaning.specs.Meaning.{Meaning, Shows, Does, Faulty, is_new_page}
use Rattle.multi_meaning.specs.Attributes.{is_inside}
use Rattle.multi_meaning.specs.Address.{Spot, Glyph, Break, standing, spots, area_of, line_before, is_glyph}
use Rattle.multi_meaning.specs.Laid.{too_big}

-- a case of an error, and the number of the error (own)
abbrev pub Case : Type 0
Case = Bool × ℕ

-- the number of the first case that holds (own)
abbrev pub first_code : List Case → Option ℕ
first_code cases = option_map (λ c. c.1) (find (λ c. c.0) cases)

-- a placing item has a group before that of an earlier one of its area (own)
abbrev pub goes_back : Spot → Spot → Bool
goes_back later earlier = nat_lt (page_number later.at.page_just) (page_number earlier.at.page_just)

-- a character has a segment before that of an earlier one of its line, or one of them is full and the other isn't (own)
abbrev pub clashes : Spot → Spot → Bool
clashes later earlier =
    let just = line_number later.at.line_just in
    let earlier_just = line_number earlier.at.line_just in
    nat_lt just earlier_just || ((just == 5) && nat_lt earlier_just 5)

-- tagConflict: a group goes back within the area, or a character's segment on its line (NTCIP 1203 v03,
-- dmsMultiSyntaxError; what conflicts is own)
abbrev pub conflicts : List Spot → Spot → Bool
conflicts before spot =
    list_any (goes_back spot) (area_of spot before) || (is_glyph spot && list_any (clashes spot) (line_before before spot))

-- the cases of a placing item: 11 tagConflict, 5 textTooBig where it is too big (NTCIP 1203 v03, dmsMultiSyntaxError; their order is own)
abbrev pub placing_cases : (List Spot → Spot → Bool) → List Spot → Spot → List Case
placing_cases big before spot = (conflicts before spot, 11) ∷ (big before spot, 5) ∷ []

-- the cases of a character: 7 characterNotDefined, then those of a placing item (NTCIP 1203 v03, dmsMultiSyntaxError;
-- their order is own)
abbrev pub character_cases : (List Spot → Spot → Bool) → SignData → List Meaning → Option CellData → List Case
character_cases big sign before None = (true, 7) ∷ []
character_cases big sign before (Some cell) = placing_cases big (spots sign before) (record { at = standing sign before; put = Glyph cell })

-- the cases of a font: 6 fontNotDefined, 13 fontVersionID (NTCIP 1203 v03, dmsMultiSyntaxError; their order is own)
abbrev pub font_cases : Option FontData → Option ℕ → List Case
font_cases None version = (true, 6) ∷ []
font_cases (Some font) version = (option_map_or (λ v. not (v == font.version)) version false, 13) ∷ []

-- the cases of an item after the items before it, in their order: the tag's own fault, 6 and 13 of a font, 4 of a rectangle
-- outside the sign, 12 of a new page past the limit, and those of placing items (NTCIP 1203 v03, dmsMultiSyntaxError; their
-- order is own)
abbrev pub cases : (List Spot → Spot → Bool) → SignData → List Meaning → Meaning → List Case
cases big sign before (Faulty code) = (true, code) ∷ []
cases big sign before (Does (Font (Some pick))) = font_cases (font_numbered sign pick.number) pick.version
cases big sign before (Does (Rect x y w h)) = (not (is_inside sign x y w h), 4) ∷ []
cases big sign before (Does NewPage) = (nat_lt sign.max_pages (count_by is_new_page before + 2), 12) ∷ []
cases big sign before (Does (NewLine gap)) = placing_cases big (spots sign before) (record { at = standing sign before; put = Break gap })
cases big sign before (Shows number) = character_cases big sign before (cell_numbered (standing sign before).font number)
cases big sign before _ = []

-- the error of an item after the items before it, if it offends, by what is too big (NTCIP 1203 v03, dmsMultiSyntaxError)
unfoldable pub offence_by : (List Spot → Spot → Bool) → SignData → List Meaning → Meaning → Option ℕ
offence_by big sign before item = first_code (cases big sign before item)

-- the error of an item after the items before it, if it offends, by whether lines are filled (NTCIP 1203 v03,
-- dmsMultiSyntaxError)
abbrev pub offence : LineFill → SignData → List Meaning → Meaning → Option ℕ
offence setting sign before item = offence_by (too_big setting) sign before item
