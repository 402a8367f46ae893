-- The places of all characters, and the pixels of some things.
use Rattle.std.specs.Prelude.{ℕ, Bool, ◌==◌, List, Some, None, if◌then◌else◌}
use Rattle.sign_font.specs.Sign.{SignData}
use Rattle.multi_meaning.specs.Address.{Spot, is_glyph, spots}
use Rattle.multi_meaning.specs.Picture.{colour_of, shown_colour, things_among}
use Rattle.sign_font.specs.declared.parts.LineFill.{LineFill}
use Rattle.multi_meaning.specs.Words.{each_after, some_after}
use Rattle.multi_meaning.specs.declared.place.Place.{Place}
use Rattle.multi_meaning.specs.Meaning.{Meaning}
use Rattle.multi_meaning.specs.Place.{place_of}
use Rattle.multi_meaning.specs.Laid.{laid_spot}

-- a pixel has this colour on a page when only some of all the spots of a string are put (own)
unfoldable pub has_colour : SignData → ℕ → ℕ → ℕ → List Spot → List Spot → ℕ → ℕ → Bool
unfolding things_among
has_colour sign page phase colour all some column row =
    shown_colour sign (colour_of sign.defaults (things_among phase all some) page column row) == colour

-- some spots from the first on, as they are laid out among all (own)
abbrev pub laid : LineFill → List Spot → List Spot → List Spot
laid setting all some = each_after (laid_spot setting all) some

-- the place of each character of a string that stands, in their order; a dropped space stands nowhere (own)
unfoldable pub places : SignData → List Meaning → List Place
unfolding spots place_of
places sign items =
    let all = laid sign.line_fill (spots sign items) (spots sign items) in
    some_after (λ before spot. if is_glyph spot then Some (place_of before all spot) else None) all
