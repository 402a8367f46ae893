-- Worked examples of the definitions.
use Rattle.std.proofs.Common.{◌≡◌, ◌^◌, ◌-◌, ◌==◌, ◌&&◌, ℕ, true, false, List, [], ◌∷◌, replicate, refl, lit<, lit≤, arith}
use Rattle.page_plane.specs.Plane.{BitPlane, is_lit}
use Rattle.page_plane.specs.Octets.{plane_of, row_octets, octet_count, is_bit_set, bit_place, stored_plane, IsStored}
use Rattle.page_plane.specs.Put.{is_put}

a_row_of_12_has_2_octets : row_octets 12 ≡ 2
a_row_of_12_has_2_octets = refl

a_row_of_16_has_2_octets : row_octets 16 ≡ 2
a_row_of_16_has_2_octets = refl

a_row_of_17_has_3_octets : row_octets 17 ≡ 3
a_row_of_17_has_3_octets = refl

the_first_place_is_the_highest_bit : is_bit_set (128 ∷ 0 ∷ []) 0 ≡ true
unfolding is_bit_set
the_first_place_is_the_highest_bit = refl

place_8_begins_the_second_octet : is_bit_set (0 ∷ 128 ∷ []) 8 ≡ true
unfolding is_bit_set
place_8_begins_the_second_octet = refl

the_second_row_of_12_begins_at_place_16 : bit_place 12 0 1 ≡ 16
the_second_row_of_12_begins_at_place_16 = refl

bit_63_is_the_leftmost_pixel : is_put 6 2 3 (2 ^ 63) 6 2 ≡ true
unfolding is_put
bit_63_is_the_leftmost_pixel = refl

a_clear_bit_puts_nothing : is_put 6 2 3 (2 ^ 63) 7 2 ≡ false
unfolding is_put
a_clear_bit_puts_nothing = refl

bits_behind_the_width_put_nothing : is_put 6 2 3 (2 ^ 64 - 1) 9 2 ≡ false
unfolding is_put
bits_behind_the_width_put_nothing = refl

no_pixel_is_lit_outside : (is_lit (plane_of 2 2 0 (λ x y. true)) 2 0 ≡ false) × (is_lit (plane_of 2 2 0 (λ x y. true)) 0 2 ≡ false)
unfolding is_lit
no_pixel_is_lit_outside = (refl, refl)

the_last_pixel_is_lit : is_lit (plane_of 3 2 0 (λ x y. true)) 2 1 ≡ true
unfolding is_lit
the_last_pixel_is_lit = refl

-- three columns and two rows, whose pixel at column 2 of row 0 is lit
corner : BitPlane
corner = plane_of 3 2 0 (λ x y. (x == 2) && (y == 0))

a_pixel_stands_at_its_column_and_row : (is_lit corner 2 0 ≡ true) × ((is_lit corner 0 1 ≡ false) × (is_lit corner 2 1 ≡ false))
unfolding is_lit corner
a_pixel_stands_at_its_column_and_row = (refl, (refl, refl))

a_plane_has_its_size_and_steps : (corner.width ≡ 3) × ((corner.height ≡ 2) × (corner.steps ≡ 0))
unfolding corner
a_plane_has_its_size_and_steps = (refl, (refl, refl))

rows_of_12_by_7_have_14_octets : octet_count (plane_of 12 7 0 (λ x y. false)) ≡ 14
rows_of_12_by_7_have_14_octets = refl

the_last_place_is_the_lowest_bit : (is_bit_set (0 ∷ 1 ∷ []) 15 ≡ true) × (is_bit_set (0 ∷ 1 ∷ []) 14 ≡ false)
unfolding is_bit_set
the_last_place_is_the_lowest_bit = (refl, refl)

-- 12 columns and two rows; the first pixel of the second row is lit
octets_hold_a_plane : is_lit (stored_plane 12 2 0 (0 ∷ 0 ∷ 128 ∷ 0 ∷ [])) 0 1 ≡ true
unfolding is_lit is_bit_set
octets_hold_a_plane = refl

a_stored_plane_has_no_spare_bit : IsStored 8 1 (255 ∷ [])
a_stored_plane_has_no_spare_bit = record {
  width_range = (lit≤ tt, lit≤ tt);
  height_range = (lit≤ tt, lit≤ tt);
  count = refl;
  spare = λ x y least most. absurd (omega (arith, least, most));
}

-- THE SIZES OF STORED PLANES

the_widest_stored_plane : IsStored 1024 1 (replicate 128 255)
the_widest_stored_plane = record {
  width_range = (lit≤ tt, lit≤ tt);
  height_range = (lit≤ tt, lit≤ tt);
  count = refl;
  spare = λ x y least most. absurd (omega (arith, least, most));
}

the_highest_stored_plane : IsStored 8 128 (replicate 128 255)
the_highest_stored_plane = record {
  width_range = (lit≤ tt, lit≤ tt);
  height_range = (lit≤ tt, lit≤ tt);
  count = refl;
  spare = λ x y least most. absurd (omega (arith, least, most));
}

no_wider_plane_is_stored : (octets : List ℕ) → IsStored 1025 1 octets → ⊥
no_wider_plane_is_stored octets = λ stored. omega (arith, stored.width_range.1)

no_higher_plane_is_stored : (octets : List ℕ) → IsStored 8 129 octets → ⊥
no_higher_plane_is_stored octets = λ stored. omega (arith, stored.height_range.1)

no_plane_is_stored_with_a_spare_bit_set : IsStored 7 1 (255 ∷ []) → ⊥
unfolding is_bit_set
no_plane_is_stored_with_a_spare_bit_set = λ stored. let e : true ≡ false = stored.spare 7 0 (lit≤ tt) (lit< tt) (lit< tt) in cc
