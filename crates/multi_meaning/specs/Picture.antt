-- The picture of a page, pixel by pixel (NTCIP 1203 v03, MULTI).
use Rattle.std.specs.Prelude.{ℕ, ◌+◌, ◌-◌, ◌%◌, Bool, true, ◌&&◌, ◌==◌, nat_le, nat_lt, min, List, Option, Some, None, if◌then◌else◌, ◌≡◌, ◌<◌}
use Rattle.std.specs.List.{filter_map, last_or}
use Rattle.std.specs.Option.{unwrap_or}
use Rattle.sign_font.specs.declared.parts.Defaults.{Defaults}
use Rattle.sign_font.specs.Cell as cells
use Rattle.sign_font.specs.Sign.{SignData, sized}
use Rattle.multi_meaning.specs.Laid.{laid_out}
use Rattle.multi_meaning.specs.Meaning.{Meaning, meanings}
use Rattle.multi_meaning.specs.declared.attributes.FlashTimes.{FlashTimes}
use Rattle.multi_meaning.specs.Address.{Put, Glyph, Break, Cover, Spot, spots}
use Rattle.multi_meaning.specs.declared.place.Place.{Place}
use Rattle.multi_meaning.specs.declared.times.Shown.{Shown}
use Rattle.multi_meaning.specs.declared.times.Shown.TheVariants.{Page, Off}
use Rattle.multi_meaning.specs.Place.{place_of}
use Rattle.multi_meaning.specs.Words.{some_after}
use Rattle.page_plane.specs.Plane.{BitPlane, is_lit}

-- a character is lit at a phase of its page: on first in the first `on` tenths of each flash, off first after the first `off`
-- ones, and always without a flash or where both its times are 0 (NTCIP 1203 v03, MULTI tag 'fl'; the times of 0 are own)
abbrev pub is_lit_at : ℕ → Option FlashTimes → Bool
is_lit_at phase None = true
is_lit_at phase (Some flash) =
    if flash.on + flash.off == 0 then true
    else (if flash.off_first then nat_le flash.off (phase % (flash.on + flash.off)) else nat_lt (phase % (flash.on + flash.off)) flash.on)

-- a thing of a page: the pixels, by column and row, that it covers, and its colour (own)
pub record Thing : Type 0 where
  pub page : ℕ
  pub covers : ℕ → ℕ → Bool
  pub colour : ℕ

-- what is put at a place covers: a background the whole page, a lit character the set bits of its cell (own)
abbrev pub thing_at : ℕ → Place → Spot → Put → Option Thing
thing_at phase place spot (Cover page colour) = Some (record { page = page; covers = λ column row. true; colour = colour })
thing_at phase place spot (Break gap) = None
thing_at phase place spot (Glyph cell) = Some (record {
  page = spot.at.page;
  covers = λ column row. is_lit_at phase spot.at.flash
      && nat_le place.column column && nat_le place.row row && nat_lt row (place.row + spot.at.font.height)
      && cells.is_lit (sized spot.at.font cell) (column - place.column) (row - place.row);
  colour = spot.at.fore;
})

-- the things that some spots put, in their order, where the string has all these spots (own)
unfoldable pub things_among : ℕ → List Spot → List Spot → List Thing
unfolding place_of
things_among phase all some = some_after (λ before spot. thing_at phase (place_of before all spot) spot spot.put) some

-- the things of all pages, in the order of the string (own)
unfoldable pub things : SignData → ℕ → List Meaning → List Thing
unfolding spots things_among
things sign phase items = things_among phase (spots sign items) (spots sign items)

-- the colour of a pixel of a page: that of the last thing of the page that covers it, or else the default background, with
-- which page 0 begins (NTCIP 1203 v03, defaultBackgroundColor; that the last thing covers the others is own)
abbrev pub colour_of : Defaults → List Thing → ℕ → ℕ → ℕ → ℕ
colour_of defaults things page column row =
    unwrap_or
    (last_or None (filter_map (λ thing. if (thing.page == page) && thing.covers column row then Some thing.colour else None) things))
    defaults.back

-- the colour that a sign shows: a monochrome one shows 1 to 9 as 1 (NTCIP 1203 v03, dmsColorScheme; that it takes them is own)
abbrev pub shown_colour : SignData → ℕ → ℕ
shown_colour sign colour = if sign.classic then colour else min colour 1

-- a pixel of a page has a colour at a phase: the plane of that colour has the pixel (own)
unfoldable pub in_plane : SignData → List Meaning → ℕ → ℕ → ℕ → ℕ → ℕ → Bool
unfolding things
in_plane sign items page phase colour column row =
    shown_colour sign (colour_of sign.defaults (things sign phase items) page column row) == colour

-- a pixel has a colour while this is shown of the items as they are laid out; in an off time every pixel has colour 0 (own)
abbrev pub pixel_at : SignData → List Meaning → Shown → ℕ → ℕ → ℕ → Bool
pixel_at sign items (Page page phase) colour column row = in_plane sign (laid_out sign items) page phase colour column row
pixel_at sign items Off colour column row = colour == 0

-- the plane of a colour of a page of a string at a phase: a test of column and row (NTCIP 1203 v03, MULTI)
abbrev pub picture : SignData → List ℕ → ℕ → ℕ → ℕ → ℕ → ℕ → Bool
picture sign octets page phase colour column row = in_plane sign (laid_out sign (meanings octets)) page phase colour column row

-- the plane has lit the pixels of a test of column and row (own)
abbrev pub Lights : BitPlane → (ℕ → ℕ → Bool) → Type 0
Lights plane lit = (column row : ℕ) → column < plane.width → row < plane.height → is_lit plane column row ≡ lit column row
