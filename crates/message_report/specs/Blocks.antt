-- The picture of a page in the sign's colours: half blocks, each of which shows two pixels, one above the other.
use Rattle.std.specs.Prelude.{ℕ, Bool, ◌+◌, ◌-◌, ◌*◌, ◌/◌, ◌==◌, ◌&&◌, nat_lt, List, [], ◌∷◌, ◌++◌, codes, decimal, slice_index, if◌then◌else◌}
use Rattle.std.specs.List.{flat_map, range_with_len}
use Rattle.sign_font.specs.Sign.{SignData}
use Rattle.page_picture.specs.Colours.{page_colour}
use Rattle.page_picture.specs.Palette.{palette}

-- ESCAPES

-- three successive octets in decimal (own)
abbrev pub three_text : List ℕ → ℕ → List ℕ
three_text shares first =
    decimal (slice_index shares first)
    ++ codes ";"
    ++ decimal (slice_index shares (first + 1))
    ++ codes ";"
    ++ decimal (slice_index shares (first + 2))

-- the red, green and blue of a colour: a palette has three octets for each number, and that of a colour is the one after its own (own)
unfoldable pub rgb_text : List ℕ → ℕ → List ℕ
rgb_text shares colour = three_text shares (3 * (colour + 1))

-- the number by which an escape gives a colour to the foreground (ISO/IEC 8613-6, select graphic rendition)
abbrev pub foreground : ℕ
foreground = 38

-- and that by which it gives one to the background (ISO/IEC 8613-6, select graphic rendition)
abbrev pub background : ℕ
background = 48

-- an escape gives what follows it a colour, as its foreground or as its background (ISO/IEC 8613-6, direct colour)
unfoldable pub colour_text : List ℕ → ℕ → ℕ → List ℕ
colour_text shares rendition colour = 27 ∷ codes "[" ++ decimal rendition ++ codes ";2;" ++ rgb_text shares colour ++ codes "m"

-- and one takes back both (ISO/IEC 8613-6, select graphic rendition 0)
abbrev pub reset_text : List ℕ
reset_text = 27 ∷ codes "[0m"

-- BLOCKS

-- the character whose upper half has the foreground and whose lower half the background, in UTF-8 (Unicode, U+2580 upper half block)
abbrev pub half_block : List ℕ
half_block = 226 ∷ 150 ∷ 128 ∷ []

-- the colour of a column is that of the column to the left, if there is one (own)
abbrev pub goes_on : (ℕ → ℕ) → ℕ → Bool
goes_on row column = nat_lt 0 column && (row (column - 1) == row column)

-- the escape for the colour of a column, unless it is that of the column to the left (own)
abbrev pub change_text : List ℕ → ℕ → (ℕ → ℕ) → ℕ → List ℕ
change_text shares rendition row column = if goes_on row column then [] else colour_text shares rendition (row column)

-- two pixels, one above the other: their colours, and a half block (own)
unfoldable pub block_text : List ℕ → (ℕ → ℕ) → (ℕ → ℕ) → ℕ → List ℕ
block_text shares upper lower column =
    change_text shares foreground upper column ++ change_text shares background lower column ++ half_block

-- the first pixels of two rows, from the left (own)
unfoldable pub blocks_text : List ℕ → (ℕ → ℕ) → (ℕ → ℕ) → ℕ → List ℕ
blocks_text shares upper lower count = flat_map (block_text shares upper lower) (range_with_len 0 count)

-- LINES

-- the colour of a pixel, which is black below the last row (own)
abbrev pub colour_within : (ℕ → ℕ → ℕ) → ℕ → ℕ → ℕ → ℕ
colour_within at height row column = if nat_lt row height then at column row else 0

-- a line shows two rows, whose colours it takes back before its line feed, octet 10 (own)
abbrev pub two_rows : List ℕ → (ℕ → ℕ → ℕ) → ℕ → ℕ → ℕ → List ℕ
two_rows shares at width height line =
    blocks_text shares (colour_within at height (2 * line)) (colour_within at height (2 * line + 1)) width ++ reset_text ++ 10 ∷ []

-- the first lines from the top (own)
unfoldable pub lines_text : List ℕ → (ℕ → ℕ → ℕ) → ℕ → ℕ → ℕ → List ℕ
lines_text shares at width height count = flat_map (two_rows shares at width height) (range_with_len 0 count)

-- the picture of a page at a phase in the sign's colours (own)
abbrev pub coloured_text : SignData → List ℕ → ℕ → ℕ → List ℕ
coloured_text sign octets page phase =
    lines_text (palette sign.classic) (page_colour sign octets page phase) sign.width sign.height ((sign.height + 1) / 2)
