-- The sample sign, asked for pixels, fonts, cells and heights.
use Rattle.std.proofs.Common.{◌≡◌, ◌^◌, true, false, [], ◌∷◌, Some, None, refl, lit<}
use Rattle.sign_font.specs.Cell.{SizedCell, is_set, is_lit, IsRowOf}
use Rattle.sign_font.specs.internal.Rows.{IsWordOf}
use Rattle.sign_font.specs.Sign.{font_numbered, cell_numbered, cell_in, unsized, sized, info_of, largest, tallest}
use Rattle.sign_font.specs.Sample.{small_font, large_font, sample}

-- PIXELS

-- three rows of three columns: .#. ### #.#
letter : SizedCell
letter = record { number = 65; width = 3; height = 3; bits = 0x5e ∷ 0x80 ∷ [] }

the_top_row_of_a_letter : (is_lit letter 0 0 ≡ false) × ((is_lit letter 1 0 ≡ true) × (is_lit letter 2 0 ≡ false))
unfolding letter
the_top_row_of_a_letter = (refl, (refl, refl))

the_middle_row_of_a_letter : (is_lit letter 0 1 ≡ true) × ((is_lit letter 1 1 ≡ true) × (is_lit letter 2 1 ≡ true))
unfolding letter
the_middle_row_of_a_letter = (refl, (refl, refl))

the_last_row_goes_on_in_the_second_octet : (is_lit letter 0 2 ≡ true) × ((is_lit letter 1 2 ≡ false) × (is_lit letter 2 2 ≡ true))
unfolding letter
the_last_row_goes_on_in_the_second_octet = (refl, (refl, refl))

no_pixel_is_lit_beside_the_cell : is_lit letter 3 0 ≡ false
unfolding letter
no_pixel_is_lit_beside_the_cell = refl

a_column_has_no_bit_of_the_next_row : is_lit letter 4 0 ≡ false
unfolding letter
a_column_has_no_bit_of_the_next_row = refl

the_highest_bit_comes_first : (is_set (0x80 ∷ 0x01 ∷ []) 0 ≡ true) × ((is_set (0x80 ∷ 0x01 ∷ []) 7 ≡ false) × (is_set (0x80 ∷ 0x01 ∷ []) 15 ≡ true))
the_highest_bit_comes_first = (refl, (refl, refl))

no_bit_is_set_behind_the_last_octet : is_set (0xff ∷ []) 8 ≡ false
no_bit_is_set_behind_the_last_octet = refl

-- FONTS AND CELLS

a_font_has_its_number : font_numbered sample 2 ≡ Some large_font
a_font_has_its_number = refl

no_font_is_there_for_another_number : font_numbered sample 3 ≡ None
no_font_is_there_for_another_number = refl

a_cell_has_its_number : cell_numbered small_font 73 ≡ Some (record { number = 73; width = 1; bits = 0xe0 ∷ [] })
a_cell_has_its_number = refl

no_cell_is_there_for_another_number : cell_numbered small_font 66 ≡ None
no_cell_is_there_for_another_number = refl

a_cell_of_a_font_has_its_height : cell_in sample 2 65 ≡ Some (record { number = 65; width = 4; height = 5; bits = 0x69 ∷ 0xf9 ∷ 0x90 ∷ [] })
a_cell_of_a_font_has_its_height = refl

no_cell_is_there_without_its_font : cell_in sample 3 65 ≡ None
no_cell_is_there_without_its_font = refl

a_cell_is_the_same_without_a_height : unsized (sized large_font (record { number = 65; width = 4; bits = [] })) ≡ record { number = 65; width = 4; bits = [] }
a_cell_is_the_same_without_a_height = refl

numbers_of_a_font : info_of small_font ≡ record { number = 1; version = 6699; height = 3; char_spacing = 1; line_spacing = 1 }
numbers_of_a_font = refl

the_largest_number : (largest [] ≡ 0) × (largest (3 ∷ 5 ∷ 4 ∷ []) ≡ 5)
the_largest_number = (refl, refl)

the_tallest_font_has_five_rows : tallest sample ≡ 5
the_tallest_font_has_five_rows = refl

-- ROWS AS WORDS

-- the top row of the letter has its second pixel lit, which is bit 62
a_row_begins_at_the_highest_bit : (IsRowOf letter 0 (2 ^ 63) → ⊥) × (IsRowOf letter 0 1 → ⊥)
unfolding letter
a_row_begins_at_the_highest_bit = (λ row. let e : false ≡ true = row 1 (lit< tt) in cc, λ row. let e : false ≡ true = row 1 (lit< tt) in cc)

a_row_has_no_pixel_beside_the_cell : IsRowOf letter 0 (2 ^ 60) → ⊥
unfolding letter
a_row_has_no_pixel_beside_the_cell = λ row. let e : true ≡ false = row 3 (lit< tt) in cc

a_word_has_its_first_bit_highest : (IsWordOf (0x5e ∷ 0x80 ∷ []) 0 3 (2 ^ 63) → ⊥) × (IsWordOf (0x5e ∷ 0x80 ∷ []) 0 3 1 → ⊥)
a_word_has_its_first_bit_highest = (λ word. let e : false ≡ true = word 1 (lit< tt) in cc, λ word. let e : false ≡ true = word 1 (lit< tt) in cc)

a_word_has_the_bits_that_are_set : IsWordOf (0x5e ∷ 0x80 ∷ []) 0 3 (2 ^ 63) → ⊥
a_word_has_the_bits_that_are_set = λ word. let e : true ≡ false = word 0 (lit< tt) in cc

a_word_has_no_bit_behind_its_width : IsWordOf (0x5e ∷ 0x80 ∷ []) 0 3 (2 ^ 60) → ⊥
a_word_has_no_bit_behind_its_width = λ word. let e : true ≡ false = word 3 (lit< tt) in cc
