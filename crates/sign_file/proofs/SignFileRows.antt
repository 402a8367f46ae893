-- Worked examples of sign files, computed.
use Rattle.std.proofs.Common.{◌≡◌, ℕ, List, [], ◌∷◌, ◌++◌, None, Some, false, refl, codes}
use Rattle.sign_font.specs.declared.parts.LineFill.TheVariants.{Off, Words}
use Rattle.sign_font.specs.Sign.{SignData}
use Rattle.message_store.specs.Slot.{PermanentData}
use Rattle.sign_file.specs.SignFile.{FileData, file_of_octets}
use Rattle.sign_file.proofs.OnLiterals.{sign_file_on_literals}

-- a sign file with this first line, these slots, this number and these bits of its one cell, and this last line
abbrev pub a_file : List ℕ → List ℕ → List ℕ → List ℕ → List ℕ → List ℕ
a_file first slots number bits last =
    first ++ codes "\nheight = 7\nscheme = \"monochrome\"\nmax_pages = 2\nslots = " ++ slots
    ++ codes "\nbytes = 4\nmax_string = 64\ndefaults = { font = 1, line = 3, page = 3, page_on = 30, page_off = 0, flash_on = 5, flash_off = 5, fore = 1, back = 0 }"
    ++ codes "\nfont = [ { number = 1, height = 3, char_spacing = 1, line_spacing = 1, cell = [ { number = " ++ number ++ codes ", width = 3, bits = \"" ++ bits
    ++ codes "\" } ] } ]\n" ++ last

unfoldable pub its_sign : ℕ → SignData
its_sign width = record {
  width = width;
  height = 7;
  classic = false;
  max_pages = 2;
  beacons = false;
  pixel_service = false;
  line_fill = Off;
  defaults = record { font = 1; line = 3; page = 3; page_on = 30; page_off = 0; flash_on = 5; flash_off = 5; fore = 1; back = 0 };
  fonts = record { number = 1; version = 0; height = 3; char_spacing = 1; line_spacing = 1; cells = record { number = 65; width = 3; bits = 0x5e ∷ 0x80 ∷ [] } ∷ [] } ∷ [];
}

abbrev its_file : ℕ → ℕ → List PermanentData → FileData
its_file width slots permanents = record {
  sign = its_sign width;
  limits = record { slots = slots; bytes = 4; max_string = 64 };
  permanents = permanents;
}

a_file_says_what_its_keys_say : file_of_octets (a_file (codes "width = 12") (codes "1") (codes "65") (codes "5e80") []) ≡ Some (its_file 12 1 [])
unfolding sign_file_on_literals its_sign
a_file_says_what_its_keys_say = refl

other_keys_are_ignored : file_of_octets (a_file (codes "width = 12\nother = [\"\"]") (codes "0") (codes "65") (codes "5E80") []) ≡ Some (its_file 12 0 [])
unfolding sign_file_on_literals its_sign
other_keys_are_ignored = refl

a_width_of_0_is_read : file_of_octets (a_file (codes "width = 0") (codes "1") (codes "65") (codes "5e80") []) ≡ Some (its_file 0 1 [])
unfolding sign_file_on_literals its_sign
a_width_of_0_is_read = refl

a_permanent_message_has_priority_1 : file_of_octets (a_file (codes "width = 12") (codes "1") (codes "65") (codes "5e80") (codes "permanent = [ { multi = \"A\", pixel = 2 } ]"))
    ≡ Some (its_file 12 1 (record { multi = 65 ∷ []; priority = 1; beacon = 0; pixel = 2 } ∷ []))
unfolding sign_file_on_literals its_sign
a_permanent_message_has_priority_1 = refl

lines_are_filled_by_words : file_of_octets (a_file (codes "width = 12\nline_fill = \"words\"") (codes "1") (codes "65") (codes "5e80") [])
    ≡ Some (record { sign = record (its_sign 12) { line_fill = Words }; limits = record { slots = 1; bytes = 4; max_string = 64 }; permanents = [] })
unfolding sign_file_on_literals its_sign
lines_are_filled_by_words = refl

lines_filled_otherwise_are_no_file : file_of_octets (a_file (codes "width = 12\nline_fill = \"letters\"") (codes "1") (codes "65") (codes "5e80") []) ≡ None
unfolding sign_file_on_literals
lines_filled_otherwise_are_no_file = refl

a_missing_width_is_no_file : file_of_octets (a_file (codes "") (codes "1") (codes "65") (codes "5e80") []) ≡ None
unfolding sign_file_on_literals
a_missing_width_is_no_file = refl

a_width_above_its_type_is_no_file : file_of_octets (a_file (codes "width = 65536") (codes "1") (codes "65") (codes "5e80") []) ≡ None
unfolding sign_file_on_literals
a_width_above_its_type_is_no_file = refl

slots_above_their_type_are_no_file : file_of_octets (a_file (codes "width = 0") (codes "70000") (codes "65") (codes "5e80") []) ≡ None
unfolding sign_file_on_literals
slots_above_their_type_are_no_file = refl

one_digit_is_no_octet : file_of_octets (a_file (codes "width = 12") (codes "1") (codes "65") (codes "5") []) ≡ None
unfolding sign_file_on_literals
one_digit_is_no_octet = refl

a_cell_above_its_type_is_no_file : file_of_octets (a_file (codes "width = 12") (codes "1") (codes "65536") (codes "5e80") []) ≡ None
unfolding sign_file_on_literals
a_cell_above_its_type_is_no_file = refl

nothing_is_no_file : file_of_octets [] ≡ None
unfolding sign_file_on_literals
nothing_is_no_file = refl

a_broken_text_is_no_file : file_of_octets (255 ∷ []) ≡ None
unfolding sign_file_on_literals
a_broken_text_is_no_file = refl
