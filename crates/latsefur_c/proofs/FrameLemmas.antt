-- The frame of the display, row by row at the front of a buffer.
use Rattle.std.proofs.Common.{◌≡◌, ℕ, ◌+◌, ◌*◌, ◌<◌, ◌≤◌, Bool, false, List, [], ◌++◌, drop, length, refl, sym, ap, ◌∙◌, subst}
use Rattle.std.specs.Prelude.{take}
use Rattle.page_plane.specs.Octets.{is_bit_set, row_octets}
use Rattle.page_plane.specs.Plane.{BitPlane, is_lit}
use Rattle.multi_meaning.specs.Picture.{Lights}
use Rattle.latsefur_c.specs.Drawn.{HoldsPlane}
use Rattle.latsefur_c.specs.Framed.{StandsInFront}
use Rattle.latsefur_c.proofs.RowLemmas.{no_rows, one_row_more}
use Rattle.latsefur_c.proofs.BufferLemmas.{one_piece_more}

-- no row stands there at first
pub none_written : (width : ℕ) (lit : ℕ → ℕ → Bool) (old : List ℕ) → StandsInFront (HoldsPlane width 0 lit) old old
none_written width lit old = ([], no_rows width lit, refl)

-- one row more
pub one_row_written : (width row : ℕ) (lit : ℕ → ℕ → Bool) (old now new line : List ℕ) (at : ℕ) → at ≡ row_octets width * row
    → length line ≡ row_octets width → ((x : ℕ) → x < width → is_bit_set line x ≡ lit x row) → ((x : ℕ) → width ≤ x → is_bit_set line x ≡ false)
    → StandsInFront (HoldsPlane width row lit) old now → new ≡ take at now ++ line ++ drop (at + length line) now
    → StandsInFront (HoldsPlane width (row + 1) lit) old new
one_row_written width row lit old now new line at place len pixels spare there is =
    let front = there.0 in
    let same : at ≡ length front = place ∙ sym (there.1.count) in (
      front ++ line,
      one_row_more width row lit front line there.1 len pixels spare,
      is ∙ ap (λ k. take k now ++ line ++ drop (k + length line) now) same ∙ one_piece_more front line old now there.2,
    )

-- octets that hold a plane hold what it lights
pub of_lights : (plane : BitPlane) (width height : ℕ) (lit : ℕ → ℕ → Bool) (old new : List ℕ) → plane.width ≡ width → plane.height ≡ height → Lights plane lit
    → StandsInFront (HoldsPlane plane.width plane.height (is_lit plane)) old new → StandsInFront (HoldsPlane width height lit) old new
of_lights plane width height lit old new wide high lights there =
    let held : HoldsPlane plane.width plane.height lit there.0 = record {
      count = there.1.count;
      pixels = λ x y left above. there.1.pixels x y left above ∙ lights x y left above;
      spare = there.1.spare;
    } in
    (there.0, subst (λ w. HoldsPlane w height lit there.0) wide (subst (λ h. HoldsPlane plane.width h lit there.0) high held), there.2)
