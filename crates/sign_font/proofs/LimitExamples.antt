-- The limits of a sign and of its defaults, at and beside their ends.
use Rattle.std.proofs.Common.{◌≡◌, ℕ, true, false, List, [], ◌∷◌, map, Option, Some, None, refl, lit≤, arith}
use Rattle.std.proofs.lemmas.List.Elements.{All-from_recursion}
use Rattle.std.specs.List.{range_with_len}
use Rattle.sign_font.specs.declared.fault.SignFault.{SignFault}
use Rattle.sign_font.specs.declared.fault.SignFault.TheVariants.{BadSize, BadFont, BadCell, BadDefault, BadLimit}
use Rattle.sign_font.specs.declared.fault.DefaultFault.TheVariants.{Value, FontUnknown}
use Rattle.sign_font.specs.declared.parts.Defaults.{Defaults}
use Rattle.sign_font.specs.Sign.{CellData, FontData, SignData}
use Rattle.sign_font.specs.Limits.{is_rising, first_fault}
use Rattle.sign_font.specs.Sound.{IsSoundCell, IsSoundFont, IsSound, IsSoundSize}
use Rattle.sign_font.specs.Defaults.{under, default_fault}
use Rattle.sign_font.specs.Fault.{default_code}
use Rattle.sign_font.specs.Sample.{small_font, large_font, sample}

the_sample_sign_has_no_fault : first_fault sample ≡ None
the_sample_sign_has_no_fault = refl

-- SIZE

abbrev by_width : ℕ → Option SignFault
by_width width = first_fault (record sample { width = width })

widths : map by_width (0 ∷ 1 ∷ 1024 ∷ 1025 ∷ []) ≡ Some BadSize ∷ None ∷ None ∷ Some BadSize ∷ []
widths = refl

abbrev by_height : ℕ → Option SignFault
by_height height = first_fault (record sample { height = height })

heights : map by_height (0 ∷ 1 ∷ 128 ∷ 129 ∷ []) ≡ Some BadSize ∷ None ∷ None ∷ Some BadSize ∷ []
heights = refl

-- FONTS

-- a sign with one font, which is its default
abbrev by_font : FontData → Option SignFault
by_font font = first_fault (record sample { fonts = font ∷ []; defaults = record sample.defaults { font = font.number } })

abbrev by_font_number : ℕ → Option SignFault
by_font_number number = by_font (record small_font { number = number })

numbers_of_fonts : map by_font_number (0 ∷ 1 ∷ 255 ∷ 256 ∷ []) ≡ Some BadFont ∷ None ∷ None ∷ Some BadFont ∷ []
numbers_of_fonts = refl

abbrev by_font_height : ℕ → Option SignFault
by_font_height height = by_font (record small_font { height = height; cells = [] })

heights_of_fonts : map by_font_height (0 ∷ 1 ∷ 64 ∷ 65 ∷ []) ≡ Some BadFont ∷ None ∷ None ∷ Some BadFont ∷ []
heights_of_fonts = refl

abbrev by_count : ℕ → Option SignFault
by_count count = first_fault (record sample { fonts = map (λ number. record large_font { number = number }) (range_with_len 1 count) })

a_sign_has_1_to_16_fonts : map by_count (0 ∷ 1 ∷ 16 ∷ 17 ∷ []) ≡ Some BadFont ∷ None ∷ None ∷ Some BadFont ∷ []
a_sign_has_1_to_16_fonts = refl

fonts_rise : first_fault (record sample { fonts = large_font ∷ small_font ∷ [] }) ≡ Some BadFont
fonts_rise = refl

no_two_fonts_have_one_number : first_fault (record sample { fonts = small_font ∷ small_font ∷ [] }) ≡ Some BadFont
no_two_fonts_have_one_number = refl

each_font_counts : first_fault (record sample { fonts = small_font ∷ record large_font { height = 0 } ∷ [] }) ≡ Some BadFont
each_font_counts = refl

each_number_is_below_all_behind_it : (is_rising (1 ∷ 2 ∷ 4 ∷ []) ≡ true) × ((is_rising (1 ∷ 3 ∷ 2 ∷ []) ≡ false) × (is_rising (1 ∷ 3 ∷ 1 ∷ []) ≡ false))
each_number_is_below_all_behind_it = (refl, (refl, refl))

-- CELLS

-- a sign with a font of this height and these cells
abbrev by_cells : ℕ → List CellData → Option SignFault
by_cells height cells = by_font (record small_font { height = height; cells = cells })

abbrev by_cell_number : ℕ → Option SignFault
by_cell_number number = by_cells 3 (record { number = number; width = 1; bits = 0xe0 ∷ [] } ∷ [])

numbers_of_cells : map by_cell_number (0 ∷ 1 ∷ 65535 ∷ 65536 ∷ []) ≡ Some BadCell ∷ None ∷ None ∷ Some BadCell ∷ []
numbers_of_cells = refl

abbrev eight_octets : List ℕ
eight_octets = 0 ∷ 0 ∷ 0 ∷ 0 ∷ 0 ∷ 0 ∷ 0 ∷ 0 ∷ []

a_cell_has_1_to_64_columns :
    by_cells 1 (record { number = 65; width = 0; bits = [] } ∷ [])
    ∷ by_cells 1 (record { number = 65; width = 1; bits = 0 ∷ [] } ∷ [])
    ∷ by_cells 1 (record { number = 65; width = 64; bits = eight_octets } ∷ [])
    ∷ by_cells 1 (record { number = 65; width = 65; bits = 0 ∷ eight_octets } ∷ []) ∷ []
    ≡ Some BadCell ∷ None ∷ None ∷ Some BadCell ∷ []
a_cell_has_1_to_64_columns = refl

abbrev by_bits : ℕ → List ℕ → Option SignFault
by_bits height bits = by_cells height (record { number = 65; width = 3; bits = bits } ∷ [])

a_cell_has_the_octets_of_its_pixels : by_bits 3 (0x5e ∷ []) ∷ by_bits 3 (0x5e ∷ 0x80 ∷ []) ∷ by_bits 3 (0x5e ∷ 0x80 ∷ 0 ∷ []) ∷ by_bits 8 (1 ∷ 2 ∷ 3 ∷ []) ∷ []
    ≡ Some BadCell ∷ None ∷ Some BadCell ∷ None ∷ []
a_cell_has_the_octets_of_its_pixels = refl

no_spare_bit_is_set : by_bits 3 (0x5e ∷ 0xc0 ∷ []) ∷ by_bits 3 (0x5e ∷ 0x81 ∷ []) ∷ [] ≡ Some BadCell ∷ Some BadCell ∷ []
no_spare_bit_is_set = refl

cells_rise : by_cells 3 (record { number = 66; width = 1; bits = 0 ∷ [] } ∷ record { number = 65; width = 1; bits = 0 ∷ [] } ∷ []) ≡ Some BadCell
cells_rise = refl

each_cell_counts : by_cells 3 (record { number = 65; width = 1; bits = 0 ∷ [] } ∷ record { number = 66; width = 0; bits = [] } ∷ []) ≡ Some BadCell
each_cell_counts = refl

each_font_has_cells : first_fault (record sample { fonts = small_font ∷ record large_font { cells = record { number = 65; width = 4; bits = [] } ∷ [] } ∷ [] }) ≡ Some BadCell
each_font_has_cells = refl

abbrev by_count_of_cells : ℕ → Option SignFault
by_count_of_cells count = by_cells 1 (map (λ number. record { number = number; width = 1; bits = 0 ∷ [] }) (range_with_len 1 count))

a_font_has_at_most_255_cells : map by_count_of_cells (0 ∷ 255 ∷ 256 ∷ []) ≡ None ∷ None ∷ Some BadCell ∷ []
a_font_has_at_most_255_cells = refl

-- DEFAULTS AND PAGES

abbrev by_defaults : Defaults → Option SignFault
by_defaults defaults = first_fault (under sample defaults)

abbrev usual : Defaults
usual = sample.defaults

the_default_font_is_there : map (λ font. by_defaults (record usual { font = font })) (0 ∷ 1 ∷ 2 ∷ 3 ∷ []) ≡ Some BadDefault ∷ None ∷ None ∷ Some BadDefault ∷ []
the_default_font_is_there = refl

default_justifications_of_lines : map (λ line. by_defaults (record usual { line = line })) (1 ∷ 2 ∷ 5 ∷ 6 ∷ []) ≡ Some BadDefault ∷ None ∷ None ∷ Some BadDefault ∷ []
default_justifications_of_lines = refl

default_justifications_of_pages : map (λ page. by_defaults (record usual { page = page })) (1 ∷ 2 ∷ 4 ∷ 5 ∷ []) ≡ Some BadDefault ∷ None ∷ None ∷ Some BadDefault ∷ []
default_justifications_of_pages = refl

default_foregrounds : map (λ fore. by_defaults (record usual { fore = fore })) (0 ∷ 9 ∷ 10 ∷ []) ≡ None ∷ None ∷ Some BadDefault ∷ []
default_foregrounds = refl

default_backgrounds : map (λ back. by_defaults (record usual { back = back })) (0 ∷ 9 ∷ 10 ∷ []) ≡ None ∷ None ∷ Some BadDefault ∷ []
default_backgrounds = refl

a_message_has_1_to_255_pages : map (λ pages. first_fault (record sample { max_pages = pages })) (0 ∷ 1 ∷ 255 ∷ 256 ∷ []) ≡ Some BadLimit ∷ None ∷ None ∷ Some BadLimit ∷ []
a_message_has_1_to_255_pages = refl

-- THE ORDER OF FAULTS

the_size_comes_before_the_fonts : first_fault (record sample { width = 0; fonts = [] }) ≡ Some BadSize
the_size_comes_before_the_fonts = refl

the_fonts_come_before_the_cells : by_font (record small_font { number = 0; cells = record { number = 0; width = 1; bits = [] } ∷ [] }) ≡ Some BadFont
the_fonts_come_before_the_cells = refl

the_cells_come_before_the_defaults : first_fault (record sample { fonts = record small_font { number = 2; cells = record { number = 0; width = 1; bits = [] } ∷ [] } ∷ [] }) ≡ Some BadCell
the_cells_come_before_the_defaults = refl

the_defaults_come_before_the_pages : first_fault (record sample { defaults = record usual { line = 6 }; max_pages = 0 }) ≡ Some BadDefault
the_defaults_come_before_the_pages = refl

-- DEFAULTS THAT A SIGN IS HANDED

a_sign_takes_its_own_defaults : default_fault sample usual ≡ None
a_sign_takes_its_own_defaults = refl

fonts_of_defaults : map (λ font. default_fault sample (record usual { font = font })) (0 ∷ 1 ∷ 2 ∷ 3 ∷ []) ≡ Some Value ∷ None ∷ None ∷ Some FontUnknown ∷ []
fonts_of_defaults = refl

values_come_before_the_font : default_fault sample (record usual { font = 3; line = 6 }) ≡ Some Value
values_come_before_the_font = refl

refusals_of_defaults_have_numbers : (default_code Value ≡ 9) × (default_code FontUnknown ≡ 10)
refusals_of_defaults_have_numbers = (refl, refl)

a_sign_under_other_defaults_is_the_same_sign : (under sample (record usual { font = 2 })).fonts ≡ sample.fonts
a_sign_under_other_defaults_is_the_same_sign = refl

it_has_the_other_defaults : (under sample (record usual { font = 2 })).defaults ≡ record usual { font = 2 }
it_has_the_other_defaults = refl

-- WHAT IS KNOWN OF AN ACCEPTED SIGN

-- the smallest sign in all
abbrev smallest : SignData
smallest = record sample {
  width = 1;
  height = 1;
  max_pages = 1;
  fonts = record small_font { height = 1; cells = [] } ∷ [];
  defaults = record usual { line = 2; page = 2; fore = 0; back = 0 };
}

-- the largest sign in all
abbrev largest_sign : SignData
largest_sign = record sample {
  width = 1024;
  height = 128;
  max_pages = 255;
  fonts = record small_font { number = 255; height = 64; cells = [] } ∷ [];
  defaults = record usual { font = 255; line = 5; page = 4; fore = 9; back = 9 };
}

the_smallest_sign_is_sound : IsSound smallest
the_smallest_sign_is_sound = record {
  width = (lit≤ tt, lit≤ tt);
  height = (lit≤ tt, lit≤ tt);
  count = (lit≤ tt, lit≤ tt);
  each = All-from_recursion IsSoundFont smallest.fonts (
    record {
      number = (lit≤ tt, lit≤ tt);
      height = (lit≤ tt, lit≤ tt);
      count = lit≤ tt;
      each = All-from_recursion (IsSoundCell 1) [] tt;
      rising = refl;
    },
    tt,
  );
  rising = refl;
  font = refl;
  line = (lit≤ tt, lit≤ tt);
  page = (lit≤ tt, lit≤ tt);
  fore = lit≤ tt;
  back = lit≤ tt;
  max_pages = (lit≤ tt, lit≤ tt);
}

the_largest_sign_is_sound : IsSound largest_sign
the_largest_sign_is_sound = record {
  width = (lit≤ tt, lit≤ tt);
  height = (lit≤ tt, lit≤ tt);
  count = (lit≤ tt, lit≤ tt);
  each = All-from_recursion IsSoundFont largest_sign.fonts (
    record {
      number = (lit≤ tt, lit≤ tt);
      height = (lit≤ tt, lit≤ tt);
      count = lit≤ tt;
      each = All-from_recursion (IsSoundCell 64) [] tt;
      rising = refl;
    },
    tt,
  );
  rising = refl;
  font = refl;
  line = (lit≤ tt, lit≤ tt);
  page = (lit≤ tt, lit≤ tt);
  fore = lit≤ tt;
  back = lit≤ tt;
  max_pages = (lit≤ tt, lit≤ tt);
}

a_wider_sign_is_not_sound : IsSound (record largest_sign { width = 1025 }) → ⊥
a_wider_sign_is_not_sound = λ sound. omega (arith, sound.width.1)

a_higher_sign_is_not_sound : IsSound (record largest_sign { height = 129 }) → ⊥
a_higher_sign_is_not_sound = λ sound. omega (arith, sound.height.1)

a_sign_of_more_pages_is_not_sound : IsSound (record largest_sign { max_pages = 256 }) → ⊥
a_sign_of_more_pages_is_not_sound = λ sound. omega (arith, sound.max_pages.1)

a_sign_of_another_line_is_not_sound : IsSound (record largest_sign { defaults = record usual { line = 6 } }) → ⊥
a_sign_of_another_line_is_not_sound = λ sound. omega (arith, sound.line.1)

a_sign_of_another_page_is_not_sound : IsSound (record largest_sign { defaults = record usual { page = 5 } }) → ⊥
a_sign_of_another_page_is_not_sound = λ sound. omega (arith, sound.page.1)

a_sign_of_another_foreground_is_not_sound : IsSound (record largest_sign { defaults = record usual { fore = 10 } }) → ⊥
a_sign_of_another_foreground_is_not_sound = λ sound. omega (arith, sound.fore)

a_sign_of_another_background_is_not_sound : IsSound (record largest_sign { defaults = record usual { back = 10 } }) → ⊥
a_sign_of_another_background_is_not_sound = λ sound. omega (arith, sound.back)

a_sign_without_a_font_is_not_sound : IsSound (record sample { fonts = [] }) → ⊥
a_sign_without_a_font_is_not_sound = λ sound. omega (arith, sound.count.0)

a_sign_of_17_fonts_is_not_sound : IsSound (record sample { fonts = map (λ number. record large_font { number = number }) (range_with_len 1 17) }) → ⊥
a_sign_of_17_fonts_is_not_sound = λ sound. omega (arith, sound.count.1)

a_font_of_a_larger_number_is_not_sound : IsSoundFont (record small_font { number = 256 }) → ⊥
a_font_of_a_larger_number_is_not_sound = λ sound. omega (arith, sound.number.1)

a_higher_font_is_not_sound : IsSoundFont (record small_font { height = 65 }) → ⊥
a_higher_font_is_not_sound = λ sound. omega (arith, sound.height.1)

a_cell_of_a_larger_number_is_not_sound : IsSoundCell 1 (record { number = 65536; width = 1; bits = 0 ∷ [] }) → ⊥
a_cell_of_a_larger_number_is_not_sound = λ sound. omega (arith, sound.number.1)

a_wider_cell_is_not_sound : IsSoundCell 1 (record { number = 65; width = 65; bits = 0 ∷ eight_octets }) → ⊥
a_wider_cell_is_not_sound = λ sound. omega (arith, sound.width.1)

a_cell_of_more_octets_is_not_sound : IsSoundCell 8 (record { number = 65; width = 1; bits = 0 ∷ 0 ∷ [] }) → ⊥
a_cell_of_more_octets_is_not_sound = λ sound. omega (arith, sound.len)

a_font_of_256_cells_is_not_sound : IsSoundFont (record small_font { cells = map (λ number. record { number = number; width = 1; bits = 0xe0 ∷ [] }) (range_with_len 1 256) }) → ⊥
a_font_of_256_cells_is_not_sound = λ sound. omega (arith, sound.count)

the_smallest_cell_has_a_sound_size : IsSoundSize (record { number = 65; width = 1; height = 1; bits = [] })
the_smallest_cell_has_a_sound_size = ((lit≤ tt, lit≤ tt), (lit≤ tt, lit≤ tt))

the_largest_cell_has_a_sound_size : IsSoundSize (record { number = 65; width = 64; height = 64; bits = [] })
the_largest_cell_has_a_sound_size = ((lit≤ tt, lit≤ tt), (lit≤ tt, lit≤ tt))

a_wider_cell_has_no_sound_size : IsSoundSize (record { number = 65; width = 65; height = 64; bits = [] }) → ⊥
a_wider_cell_has_no_sound_size = λ sound. omega (arith, sound.0.1)

a_higher_cell_has_no_sound_size : IsSoundSize (record { number = 65; width = 64; height = 65; bits = [] }) → ⊥
a_higher_cell_has_no_sound_size = λ sound. omega (arith, sound.1.1)
