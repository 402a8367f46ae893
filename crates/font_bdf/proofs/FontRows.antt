-- Worked lines and fonts in BDF, computed.
use Rattle.std.proofs.Common.{◌≡◌, [], ◌∷◌, None, Some, false, true, refl, codes}
use Rattle.std.specs.Prelude.{ℕ, List, Option, negsuc}
use Rattle.sign_font.specs.Sign.{CellData, FontData}
use Rattle.font_bdf.specs.declared.setting.FontSetting.{FontSetting}
use Rattle.font_bdf.specs.declared.setting.Outside.TheVariants.{Refuse, Skip, Widen}
use Rattle.font_bdf.specs.Bitmap.{bits_value, is_bit, is_inside, is_lit, is_row, is_set_at, is_whole, is_within, octets_of}
use Rattle.font_bdf.specs.Character.{advance_in, cells_in, cells_of, cells_of_block, drawing_in}
use Rattle.font_bdf.specs.Chosen.{chosen}
use Rattle.font_bdf.specs.Font.{cropped, font_of_bdf, font_of_lines, font_spaced, head_of, rows_in}
use Rattle.font_bdf.specs.Order.{all_cells, if_apart, in_order, put}
use Rattle.font_bdf.specs.Placed.{fitting, placed}
use Rattle.font_bdf.specs.Lines.{after, before, begins, lines, words}
use Rattle.font_bdf.specs.Numbers.{box_in, box_of, number_at, number_in, number_of}
use Rattle.font_bdf.specs.Rows.{dark_rows}

a_blank_parts_words : words (codes "BBX 1\t20 ") ≡ codes "BBX" ∷ codes "1" ∷ codes "20" ∷ []
unfolding words
a_blank_parts_words = refl

a_number_may_be_below_0 : number_at 2 (codes "BBX 1 -2") ≡ Some (negsuc 1)
unfolding words number_of
a_number_may_be_below_0 = refl

abbrev setting : FontSetting
setting = record {
  number = 7;
  version = 0;
  char_spacing = Some 1;
  written_spacing = None;
  line_spacing = 2;
  characters = record { ref_ptr = (0, 0); now = record { first = 70; last = 73 } ∷ [] };
  outside = Refuse;
  crop = false;
  height = None;
}

-- two rows, of which the lower one is below the base line and dark
abbrev within_its_cell : List ℕ
within_its_cell = codes "STARTFONT 2.1\nFONTBOUNDINGBOX 2 2 0 -1\nDWIDTH 3 0\nSTARTCHAR I\nENCODING 73\nBBX 1 2 1 -1\nBITMAP\n80\n00\nENDCHAR\nENDFONT\n"

-- the box of its character goes past the cell, to the left
abbrev outside_its_cell : List ℕ
outside_its_cell = codes "STARTFONT 2.1\nFONTBOUNDINGBOX 2 2 0 -1\nSTARTCHAR I\nENCODING 73\nDWIDTH 3 0\nBBX 1 2 -1 -1\nBITMAP\n80\n00\nENDCHAR\nENDFONT\n"

-- a font of one cell
abbrev font : ℕ → CellData → Option FontData
font height cell = Some (record { number = 7; version = 0; height = height; char_spacing = 1; line_spacing = 2; cells = cell ∷ [] })

a_font_has_its_cell : font_of_bdf setting within_its_cell ≡ font 2 (record { number = 73; width = 2; bits = 64 ∷ [] })
unfolding bits_value is_bit is_inside is_lit is_row is_set_at is_whole is_within octets_of advance_in after all_cells before cells_in cells_of cells_of_block chosen cropped drawing_in fitting font_of_bdf font_of_lines font_spaced head_of if_apart in_order placed put rows_in begins lines words box_in box_of number_in number_of dark_rows
a_font_has_its_cell = refl

a_dark_last_column_is_the_spacing : font_of_bdf (record setting { char_spacing = None }) within_its_cell ≡ font 2 (record { number = 73; width = 2; bits = 64 ∷ [] })
unfolding bits_value is_bit is_inside is_lit is_row is_set_at is_whole is_within octets_of advance_in after all_cells before cells_in cells_of cells_of_block chosen cropped drawing_in fitting font_of_bdf font_of_lines font_spaced head_of if_apart in_order placed put rows_in begins lines words box_in box_of number_in number_of dark_rows
a_dark_last_column_is_the_spacing = refl

a_spacing_is_written : font_of_bdf (record setting { written_spacing = Some 3 }) within_its_cell ≡ Some (record { number = 7; version = 0; height = 2; char_spacing = 3; line_spacing = 2; cells = record { number = 73; width = 2; bits = 64 ∷ [] } ∷ [] })
unfolding bits_value is_bit is_inside is_lit is_row is_set_at is_whole is_within octets_of advance_in after all_cells before cells_in cells_of cells_of_block chosen cropped drawing_in fitting font_of_bdf font_of_lines font_spaced head_of if_apart in_order placed put rows_in begins lines words box_in box_of number_in number_of dark_rows
a_spacing_is_written = refl

a_dark_row_is_taken_off : font_of_bdf (record setting { crop = true }) within_its_cell ≡ font 1 (record { number = 73; width = 2; bits = 64 ∷ [] })
unfolding bits_value is_bit is_inside is_lit is_row is_set_at is_whole is_within octets_of advance_in after all_cells before cells_in cells_of cells_of_block chosen cropped drawing_in fitting font_of_bdf font_of_lines font_spaced head_of if_apart in_order placed put rows_in begins lines words box_in box_of number_in number_of dark_rows
a_dark_row_is_taken_off = refl

rows_are_added : font_of_bdf (record setting { height = Some 4 }) within_its_cell ≡ font 4 (record { number = 73; width = 2; bits = 16 ∷ [] })
unfolding bits_value is_bit is_inside is_lit is_row is_set_at is_whole is_within octets_of advance_in after all_cells before cells_in cells_of cells_of_block chosen cropped drawing_in fitting font_of_bdf font_of_lines font_spaced head_of if_apart in_order placed put rows_in begins lines words box_in box_of number_in number_of dark_rows
rows_are_added = refl

a_lit_pixel_stands_in_its_cell : font_of_bdf setting outside_its_cell ≡ None
unfolding bits_value is_bit is_inside is_lit is_row is_set_at is_whole is_within octets_of advance_in after all_cells before cells_in cells_of cells_of_block chosen cropped drawing_in fitting font_of_bdf font_of_lines font_spaced head_of if_apart in_order placed put rows_in begins lines words box_in box_of number_in number_of dark_rows
a_lit_pixel_stands_in_its_cell = refl

a_font_has_a_character : font_of_bdf (record setting { outside = Skip }) outside_its_cell ≡ None
unfolding bits_value is_bit is_inside is_lit is_row is_set_at is_whole is_within octets_of advance_in after all_cells before cells_in cells_of cells_of_block chosen cropped drawing_in fitting font_of_bdf font_of_lines font_spaced head_of if_apart in_order placed put rows_in begins lines words box_in box_of number_in number_of dark_rows
a_font_has_a_character = refl

a_cell_is_widened_to_the_left : font_of_bdf (record setting { outside = Widen }) outside_its_cell ≡ font 2 (record { number = 73; width = 3; bits = 128 ∷ [] })
unfolding bits_value is_bit is_inside is_lit is_row is_set_at is_whole is_within octets_of advance_in after all_cells before cells_in cells_of cells_of_block chosen cropped drawing_in fitting font_of_bdf font_of_lines font_spaced head_of if_apart in_order placed put rows_in begins lines words box_in box_of number_in number_of dark_rows
a_cell_is_widened_to_the_left = refl
