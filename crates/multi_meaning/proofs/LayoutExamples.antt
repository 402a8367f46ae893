-- Worked examples of what items mean, of the attributes that they give, of widths, heights and what fits, and of what is put, computed.
use Rattle.multi_meaning.proofs.Common.{◌≡◌, ℕ, Bool, true, false, List, [], ◌∷◌, map, Option, Some, None, inr, refl, Centre, Full, Middle, Bottom, NewLine, NewPage, Rect, sample, FlashTimes, Meaning, Shows, Does, Faulty, EndsArea, begins_area, has_place, is_inside, CharSpacing, CharSpacingEnd, Flash, FlashEnd, given_line_just, given_page_just, given_spacing, given_flash, rectangle, range_with_len, option_map_or, SignData, whole_sign, Standing, Put, Glyph, Break, Cover, Spot, spots, standing, largest, glyph_width, fit, line_fits, area_fits, is_space, Page, place_of, in_plane, thing_at, things, things_among, has_colour, Times, is_on, Left, Right, Top, small_font, laid_fits, pixel_at}
use Rattle.multi_tag.specs.declared.just.LineJust.{LineJust}
use Rattle.multi_tag.specs.declared.just.PageJust.{PageJust}
use Rattle.multi_tag.specs.declared.tag.Tag.TheVariants as tags
use Rattle.multi_meaning.specs.declared.times.Shown.TheVariants.{Off}

-- an item of each kind
abbrev items : List Meaning
items = Shows 65 ∷ Does (NewLine None) ∷ Does (NewLine (Some 2)) ∷ Does NewPage ∷ Does (Rect 1 1 3 3) ∷ Does FlashEnd ∷ Faulty 3 ∷ []

an_area_begins_at_a_new_page_and_a_rectangle : map begins_area items ≡ false ∷ false ∷ false ∷ true ∷ true ∷ false ∷ false ∷ []
an_area_begins_at_a_new_page_and_a_rectangle = refl

an_area_ends_before_a_new_page : EndsArea (Does NewPage ∷ [])
an_area_ends_before_a_new_page = inr (Does NewPage, [], refl, refl)

characters_and_new_lines_have_a_place : map has_place items ≡ true ∷ true ∷ true ∷ false ∷ false ∷ false ∷ false ∷ []
characters_and_new_lines_have_a_place = refl

line_justifications : map (given_line_just sample.defaults) (Does (tags.LineJust (Some Full)) ∷ Does (tags.LineJust None) ∷ Does NewPage ∷ []) ≡ Some Full ∷ Some Centre ∷ None ∷ []
line_justifications = refl

page_justifications : map (given_page_just sample.defaults) (Does (tags.PageJust (Some Bottom)) ∷ Does (tags.PageJust None) ∷ Does NewPage ∷ []) ≡ Some Bottom ∷ Some Middle ∷ None ∷ []
page_justifications = refl

spacings : map given_spacing (Does (CharSpacing 4) ∷ Does CharSpacingEnd ∷ Does NewPage ∷ []) ≡ Some (Some 4) ∷ Some None ∷ None ∷ []
spacings = refl

abbrev flash : Bool → ℕ → ℕ → Option (Option FlashTimes)
flash off_first on off = Some (Some (record { off_first = off_first; on = on; off = off }))

-- flashing text is on for 6 tenths and off for 8, unless a tag says otherwise
flashes : map (given_flash (record sample.defaults { flash_on = 6; flash_off = 8 })) (Does (Flash true (Some 3) (Some 7)) ∷ Does (Flash false None (Some 7)) ∷ Does (Flash false (Some 3) None) ∷ Does FlashEnd ∷ Does NewPage ∷ [])
    ≡ flash true 3 7 ∷ flash false 6 7 ∷ flash false 3 8 ∷ Some None ∷ None ∷ []
flashes = refl

-- rectangles, on 12 columns and 7 rows: one that fills the sign, one of the last pixel, and one amid the sign
rectangles_inside_the_sign : is_inside sample 1 1 12 7 ∷ is_inside sample 12 7 1 1 ∷ is_inside sample 5 4 1 1 ∷ [] ≡ true ∷ true ∷ true ∷ []
rectangles_inside_the_sign = refl

a_rectangle_begins_and_ends_inside_the_sign : is_inside sample 0 1 1 1 ∷ is_inside sample 1 0 1 1 ∷ is_inside sample 13 1 0 1 ∷ is_inside sample 1 8 1 0
    ∷ is_inside sample 1 1 13 1 ∷ is_inside sample 12 1 2 1 ∷ is_inside sample 1 1 1 8 ∷ is_inside sample 1 7 1 2 ∷ []
    ≡ false ∷ false ∷ false ∷ false ∷ false ∷ false ∷ false ∷ false ∷ []
a_rectangle_begins_and_ends_inside_the_sign = refl

-- a rectangle is counted from 1, may be of 1 pixel, or of all that remains
rectangles : rectangle sample 3 2 4 5 ∷ rectangle sample 3 2 1 1 ∷ rectangle sample 3 2 0 0 ∷ []
    ≡ record { left = 2; top = 1; width = 4; height = 5 } ∷ record { left = 2; top = 1; width = 1; height = 1 } ∷ record { left = 2; top = 1; width = 10; height = 6 } ∷ []
rectangles = refl

-- where the first item of the sample sign stands
abbrev pub first : Standing
first = record {
  page = 0;
  area = 0;
  font = small_font;
  line_just = Centre;
  page_just = Middle;
  spacing = None;
  fore = 1;
  back = 0;
  on = 30;
  off = 0;
  flash = None;
  rectangle = whole_sign sample;
}

-- a character of a number and a width
abbrev character : ℕ → ℕ → Put
character number width = Glyph (record { number = number; width = width; bits = [] })

abbrev standing_first : Put → Spot
standing_first put = record { at = first; put = put }

only_a_character_has_columns : map (λ put. glyph_width (standing_first put)) (character 65 3 ∷ Break None ∷ Cover 0 1 ∷ []) ≡ 3 ∷ 0 ∷ 0 ∷ []
only_a_character_has_columns = refl

only_character_32_is_a_space : map (λ put. is_space (standing_first put)) (character 31 2 ∷ character 32 2 ∷ character 33 2 ∷ Break None ∷ Cover 0 1 ∷ [])
    ≡ false ∷ true ∷ false ∷ false ∷ false ∷ []
only_character_32_is_a_space = refl

the_largest_number : map (largest {X = ℕ} (λ n. n)) ([] ∷ (2 ∷ 5 ∷ 3 ∷ []) ∷ []) ≡ 0 ∷ 5 ∷ []
the_largest_number = refl

-- three parts fit a length or not
abbrev AreFits : List (ℕ × ℕ × ℕ × ℕ × Bool) → Type 0
AreFits rows = map (λ row. fit row.0 row.1 row.2 row.3) rows ≡ map (λ row. row.4) rows

three_parts : AreFits (
    (2, 4, 2, 10, true) ∷  -- parts with room between them
    (3, 4, 3, 10, true) ∷  -- parts without room between them
    (4, 4, 0, 10, false) ∷  -- a start reaches into the middle
    (0, 4, 4, 10, false) ∷  -- a middle reaches into the end
    (3, 1, 0, 6, false) ∷  -- a middle of 1 is in the way
    (5, 0, 2, 7, true) ∷  -- a middle of none is in nobodys way
    (5, 0, 3, 7, false) ∷  -- a start and an end are too long
    (3, 4, 4, 11, true) ∷  -- a middle stands nearer to the start
    (4, 4, 3, 11, false) ∷  -- and reaches into it
    [])
three_parts = refl

-- whether a character of a width fits 12 columns, with a line justification
abbrev has_columns_for : ℕ → LineJust → Bool
has_columns_for width just = line_fits 12 (record { at = record first { line_just = just }; put = character 65 width } ∷ [])

-- 3 columns and all 12 fit, and a 13th is too many
columns : map (λ width. map (has_columns_for width) (Left ∷ Centre ∷ Right ∷ Full ∷ [])) (3 ∷ 12 ∷ 13 ∷ [])
    ≡ (true ∷ true ∷ true ∷ true ∷ []) ∷ (true ∷ true ∷ true ∷ true ∷ []) ∷ (false ∷ false ∷ false ∷ false ∷ []) ∷ []
columns = refl

-- an area of one character, whose font has this many rows, with a page justification
abbrev area : ℕ → PageJust → List Spot
area rows just = record { at = record first { page_just = just; font = record small_font { height = rows } }; put = character 65 3 } ∷ []

-- all 7 rows fit, and an 8th is too many
rows : map (λ rows. map (λ just. area_fits 7 (area rows just)) (Top ∷ Middle ∷ Bottom ∷ [])) (7 ∷ 8 ∷ [])
    ≡ (true ∷ true ∷ true ∷ []) ∷ (false ∷ false ∷ false ∷ []) ∷ []
rows = refl

rows_as_laid_out : map (λ rows. map (λ just. laid_fits None 7 (area rows just)) (Top ∷ Middle ∷ Bottom ∷ [])) (7 ∷ 8 ∷ [])
    ≡ (true ∷ true ∷ true ∷ []) ∷ (false ∷ false ∷ false ∷ []) ∷ []
rows_as_laid_out = refl

-- what is put on page 1 in colour 3, with a flash and in the font of three rows
abbrev spot_with : Option FlashTimes → Put → Spot
spot_with flash put = record { at = record first { page = 1; area = 1; fore = 3; flash = flash }; put = put }

-- the cell of `A`, and after its last row more bits, all set
abbrev letter : Put
letter = Glyph (record { number = 65; width = 3; bits = 0x5e ∷ 0xff ∷ [] })

-- what is put from column 4 and row 2 on covers a pixel at a phase
abbrev covers : ℕ → Option FlashTimes → Put → ℕ → ℕ → Bool
covers phase flash put column row =
    option_map_or (λ thing. thing.covers column row) (thing_at phase (record { column = 4; row = 2 }) (spot_with flash put) put) false

-- columns 3 to 7 of a row
abbrev columns_in : ℕ → Option FlashTimes → Put → ℕ → List Bool
columns_in phase flash put row = map (λ column. covers phase flash put column row) (range_with_len 3 5)

a_character_covers_its_set_bits_and_nothing_above_or_below : map (columns_in 0 None letter) (1 ∷ 2 ∷ 3 ∷ 4 ∷ 5 ∷ [])
    ≡ (false ∷ false ∷ false ∷ false ∷ false ∷ []) ∷ (false ∷ false ∷ true ∷ false ∷ false ∷ []) ∷ (false ∷ true ∷ true ∷ true ∷ false ∷ [])
    ∷ (false ∷ true ∷ false ∷ true ∷ false ∷ []) ∷ (false ∷ false ∷ false ∷ false ∷ false ∷ []) ∷ []
a_character_covers_its_set_bits_and_nothing_above_or_below = refl

-- 5 tenths on, then 5 off
a_character_covers_nothing_in_its_off_time : map (λ phase. covers phase (Some (record { off_first = false; on = 5; off = 5 })) letter 5 2) (4 ∷ 5 ∷ 9 ∷ 10 ∷ []) ≡ true ∷ false ∷ false ∷ true ∷ []
a_character_covers_nothing_in_its_off_time = refl

-- a background covers the first pixel and the last, and the end of a line none
covered : covers 0 None (Cover 1 2) 0 0 ∷ covers 0 None (Cover 1 2) 11 6 ∷ covers 0 None (Break None) 4 2 ∷ [] ≡ true ∷ true ∷ false ∷ []
covered = refl

-- a sign of many colours, whose pages begin with colour 2
abbrev colourful : SignData
colourful = record sample { classic = true; defaults = record sample.defaults { back = 2 } }

unfoldable empty_page : ℕ → Bool
unfolding in_plane things_among things place_of spots standing
empty_page colour = pixel_at colourful [] (Page 0 0) colour 0 0

an_empty_page_has_the_background : map empty_page (0 ∷ 1 ∷ 2 ∷ []) ≡ false ∷ false ∷ true ∷ []
unfolding empty_page
an_empty_page_has_the_background = refl

an_off_time_has_colour_0 : map (λ colour. pixel_at colourful [] Off colour 0 0) (0 ∷ 1 ∷ 2 ∷ []) ≡ true ∷ false ∷ false ∷ []
an_off_time_has_colour_0 = refl

-- a pixel has a colour on page 1 when only these are put there
unfoldable has : List Spot → ℕ → Bool
unfolding has_colour things_among place_of
has some colour = has_colour colourful 1 0 colour some some 0 0

nothing_and_a_background_are_put : map (λ some. map (has some) (0 ∷ 1 ∷ 2 ∷ 3 ∷ [])) ([] ∷ (spot_with None (Cover 1 3) ∷ []) ∷ [])
    ≡ (false ∷ false ∷ true ∷ false ∷ []) ∷ (false ∷ false ∷ false ∷ true ∷ []) ∷ []
unfolding has
nothing_and_a_background_are_put = refl

-- two pages, each of 10 tenths and 5 off
abbrev pages : List Times
pages = record { on = 10; off = 5 } ∷ record { on = 10; off = 5 } ∷ []

-- at these clocks the first page is on, the second, or a third, which there isn't
pages_are_on : map (λ page. map (λ clock. is_on pages clock page) (0 ∷ 9 ∷ 10 ∷ 14 ∷ 15 ∷ 24 ∷ 25 ∷ 29 ∷ 30 ∷ [])) (0 ∷ 1 ∷ 2 ∷ [])
    ≡ (true ∷ true ∷ false ∷ false ∷ false ∷ false ∷ false ∷ false ∷ false ∷ []) ∷ (false ∷ false ∷ false ∷ false ∷ true ∷ true ∷ false ∷ false ∷ false ∷ [])
    ∷ (false ∷ false ∷ false ∷ false ∷ false ∷ false ∷ false ∷ false ∷ false ∷ []) ∷ []
pages_are_on = refl
