-- The lines of a page's half blocks.
use Rattle.std.proofs.Common.{◌≡◌, ℕ, suc, ◌+◌, ◌-◌, ◌*◌, ◌/◌, ◌<◌, ◌==◌, ◌&&◌, nat_lt, List, [], ◌∷◌, ◌++◌, refl, ap, ◌∙◌, arith, inl, inr, if◌then◌else◌}
use Rattle.std.proofs.lemmas.Bool.{cases_Bool, ltb-true}
use Rattle.std.specs.List.{flat_map, range_with_len}
use Rattle.sign_font.specs.Sign.{SignData}
use Rattle.octet_text.proofs.TextLemmas.{flat_map_more, flat_map_same}
use Rattle.page_picture.specs.Colours.{ColourData, IsPage, colour_at, page_colour}
use Rattle.page_picture.specs.Palette.{palette}
use Rattle.message_report.specs.Blocks.{background, block_text, blocks_text, change_text, colour_text, colour_within, coloured_text, foreground, goes_on, half_block, lines_text, reset_text, two_rows}

-- one more number of a range
more : (f : ℕ → List ℕ) (n : ℕ) → flat_map f (range_with_len 0 (n + 1)) ≡ flat_map f (range_with_len 0 n) ++ f n
more f n =
    let next : n + 1 ≡ suc n = omega arith in
    ap (λ k. flat_map f (range_with_len 0 k)) next ∙ flat_map_more f 0 n n (omega arith)

-- no block is written at first, and one more comes after those to the left of it
pub blocks_none : (shares : List ℕ) (upper lower : ℕ → ℕ) → blocks_text shares upper lower 0 ≡ []
unfolding blocks_text
blocks_none shares upper lower = refl

pub blocks_more : (shares : List ℕ) (upper lower : ℕ → ℕ) (column : ℕ)
    → blocks_text shares upper lower (column + 1) ≡ blocks_text shares upper lower column ++ block_text shares upper lower column
unfolding blocks_text
blocks_more shares upper lower column = more (block_text shares upper lower) column

-- nor a line, and one more comes after those above it
pub lines_none : (shares : List ℕ) (at : ℕ → ℕ → ℕ) (width height : ℕ) → lines_text shares at width height 0 ≡ []
unfolding lines_text
lines_none shares at width height = refl

pub lines_more : (shares : List ℕ) (at : ℕ → ℕ → ℕ) (width height line : ℕ)
    → lines_text shares at width height (line + 1) ≡ lines_text shares at width height line ++ two_rows shares at width height line
unfolding lines_text
lines_more shares at width height line = more (two_rows shares at width height) line

-- what has the same colours goes on at the same columns
goes_same : (row other : ℕ → ℕ) (width column : ℕ) → ((k : ℕ) → k < width → row k ≡ other k) → column < width → goes_on row column ≡ goes_on other column
goes_same row other width column same left =
    ap (λ c. nat_lt 0 column && (c == row column)) (same (column - 1) (omega (arith, left)))
    ∙ ap (λ c. nat_lt 0 column && (other (column - 1) == c)) (same column left)

-- and has the same escapes
change_same : (shares : List ℕ) (rendition : ℕ) (row other : ℕ → ℕ) (width column : ℕ) → ((k : ℕ) → k < width → row k ≡ other k) → column < width
    → change_text shares rendition row column ≡ change_text shares rendition other column
change_same shares rendition row other width column same left =
    ap (λ b. if b then [] else colour_text shares rendition (row column)) (goes_same row other width column same left)
    ∙ ap (λ c. if goes_on other column then [] else colour_text shares rendition c) (same column left)

block_same : (shares : List ℕ) (upper lower above below : ℕ → ℕ) (width column : ℕ) → ((k : ℕ) → k < width → upper k ≡ above k) → ((k : ℕ) → k < width → lower k ≡ below k) → column < width
    → block_text shares upper lower column ≡ block_text shares above below column
unfolding block_text
block_same shares upper lower above below width column first second left =
    ap (λ l. l ++ change_text shares background lower column ++ half_block) (change_same shares foreground upper above width column first left)
    ∙ ap (λ l. change_text shares foreground above column ++ l ++ half_block) (change_same shares background lower below width column second left)

blocks_same : (shares : List ℕ) (upper lower above below : ℕ → ℕ) (width : ℕ) → ((k : ℕ) → k < width → upper k ≡ above k) → ((k : ℕ) → k < width → lower k ≡ below k)
    → blocks_text shares upper lower width ≡ blocks_text shares above below width
unfolding blocks_text
blocks_same shares upper lower above below width first second =
    flat_map_same (block_text shares upper lower) (block_text shares above below) 0 width (λ column left.
    block_same shares upper lower above below width column first second (omega (arith, left)))

-- rows that have the same colours on a page have them with what is below it
within_same : (at other : ℕ → ℕ → ℕ) (width height row column : ℕ) → ((column row : ℕ) → column < width → row < height → at column row ≡ other column row) → column < width
    → colour_within at height row column ≡ colour_within other height row column
within_same at other width height row column same left = elim (cases_Bool (nat_lt row height)) [
  | inl above ↦ rw above (same column row left (ltb-true row height above))
  | inr below ↦ rw below refl
]

-- what has the same colours has the same lines
lines_same : (shares : List ℕ) (at other : ℕ → ℕ → ℕ) (width height count : ℕ) → ((column row : ℕ) → column < width → row < height → at column row ≡ other column row)
    → lines_text shares at width height count ≡ lines_text shares other width height count
unfolding lines_text
lines_same shares at other width height count same =
    flat_map_same (two_rows shares at width height) (two_rows shares other width height) 0 count (λ line above.
    ap (λ l. l ++ reset_text ++ 10 ∷ []) (blocks_same shares _ _ (colour_within other height (2 * line)) (colour_within other height (2 * line + 1)) width
    (λ column left. within_same at other width height (2 * line) column same left)
    (λ column left. within_same at other width height (2 * line + 1) column same left)))

-- the half blocks of a page's colours are its picture
pub pictured : (sign : SignData) (octets : List ℕ) (page phase : ℕ) (colours : ColourData) (shares : List ℕ) → IsPage sign octets page phase colours → shares ≡ palette sign.classic
    → lines_text shares (colour_at colours) colours.width colours.height ((colours.height + 1) / 2) ≡ coloured_text sign octets page phase
pictured sign octets page phase colours shares is shine =
    ap (λ s. lines_text s (colour_at colours) colours.width colours.height ((colours.height + 1) / 2)) shine
    ∙ ap (λ w. lines_text (palette sign.classic) (colour_at colours) w colours.height ((colours.height + 1) / 2)) is.width
    ∙ ap (λ h. lines_text (palette sign.classic) (colour_at colours) sign.width h ((h + 1) / 2)) is.height
    ∙ lines_same (palette sign.classic) (colour_at colours) (page_colour sign octets page phase) sign.width sign.height ((sign.height + 1) / 2) is.pixels
