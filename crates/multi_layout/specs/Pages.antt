-- The pages of an accepted string, drawn one after the other into one plane.
use Rattle.std.specs.Prelude.{◌≡◌, ℕ, ◌+◌, ◌*◌, ◌^◌, ◌<◌, ◌≤◌, ◌==◌, List, length, if◌then◌else◌}
use Rattle.multi_token.specs.Counted.{RisesBetween}
use Rattle.page_plane.specs.Plane.{BitPlane}
use Rattle.sign_font.specs.Sign.{SignData, tallest}
use Rattle.sign_font.specs.Sound.{IsSound}
use Rattle.multi_meaning.specs.declared.times.Shown.{Shown}
use Rattle.multi_meaning.specs.Picture.{Lights, pixel_at}
use Rattle.multi_meaning.specs.Meaning.{meanings}
use Rattle.multi_meaning.specs.Times.{shown}
use Rattle.multi_meaning.specs.Verdict.{pages_of}
use Rattle.multi_layout.specs.declared.cursor.Cursor.{Cursor}
use Rattle.multi_layout.specs.CheckedData.{CheckedData}
use Rattle.multi_layout.specs.Limits.{plane_limit, plane_octets, reading_limit}
use Rattle.multi_layout.specs.internal.PageDrawing.{IsPageStart}

-- the string and the plane as they are, what is drawn, the page that comes next, and both counts at the start (own)
pub record PagesState : Type 0 where
  pub string : CheckedData
  pub plane : BitPlane
  pub phase : ℕ
  pub colour : ℕ
  pub next : ℕ
  pub string_started : ℕ
  pub plane_started : ℕ

-- what is kept of pages, as it is seen (own)
abbrev pub pages_state : CheckedData → BitPlane → ℕ → ℕ → ℕ → ℕ → ℕ → PagesState
pages_state string plane phase colour next string_started plane_started = record {
  string = string;
  plane = plane;
  phase = phase;
  colour = colour;
  next = next;
  string_started = string_started;
  plane_started = plane_started;
}

-- the number of pages of a string that was judged (own)
abbrev pub page_count : CheckedData → ℕ
page_count string = pages_of (meanings string.source.octets)

-- the plane has the size of the sign (own)
abbrev pub IsSized : BitPlane → SignData → Type 0
IsSized plane sign = (plane.width ≡ sign.width) × (plane.height ≡ sign.height)

-- the next page begins at the cursor, and the octets before it are all that was read and drawn so far (own)
pub record IsUnderWay (pages : PagesState) (cursor : Cursor) : Type 0 where
  pub sound : IsSound pages.string.sign
  pub short : length pages.string.source.octets < 2 ^ 32
  pub size : IsSized pages.plane pages.string.sign
  pub next_most : pages.next ≤ page_count pages.string
  pub begins : pages.next < page_count pages.string
      → IsPageStart pages.string.sign pages.string.source.octets cursor × (cursor.state.pages ≡ pages.next + 1)
  pub within : cursor.at ≤ length pages.string.source.octets
  pub read_least : pages.string_started ≤ pages.string.source.steps
  pub read_most :
      pages.string.source.steps ≤ pages.string_started + 18 * cursor.at + (if pages.next == page_count pages.string then 2 else 0)
  pub fills : ℕ
  pub fills_few : 4 * fills ≤ cursor.at + (if pages.next == page_count pages.string then 4 else 0)
  pub drawn_least : pages.plane_started ≤ pages.plane.steps
  pub drawn_most : pages.plane.steps ≤ pages.plane_started + tallest pages.string.sign * cursor.at + plane_octets pages.string.sign * fills

-- the next page was drawn, and the one after it comes next (own)
pub record TurnsPage (old new : PagesState) : Type 0 where
  pub sign_kept : new.string.sign ≡ old.string.sign
  pub read : RisesBetween old.string.source new.string.source 0 (reading_limit (length old.string.source.octets))
  pub size_kept : (new.plane.width ≡ old.plane.width) × (new.plane.height ≡ old.plane.height)
  pub drawn_least : old.plane.steps ≤ new.plane.steps
  pub drawn_most : new.plane.steps ≤ old.plane.steps + plane_limit old.string.sign (length old.string.source.octets)
  pub phase_kept : new.phase ≡ old.phase
  pub colour_kept : new.colour ≡ old.colour
  pub next_page : new.next ≡ old.next + 1
  pub string_started_kept : new.string_started ≡ old.string_started
  pub plane_started_kept : new.plane_started ≡ old.plane_started

-- this is what an accepted string shows at a clock, and the plane of a colour of it (own)
abbrev pub ShowsAt : SignData → List ℕ → ℕ → ℕ → BitPlane → Shown → Type 0
ShowsAt sign octets clock colour plane here =
    (here ≡ shown sign octets clock) × Lights plane (pixel_at sign (meanings octets) here colour)

-- drawing a string of n octets took no more steps over the plane than the limit (own)
abbrev pub TakesFew : SignData → ℕ → BitPlane → BitPlane → Type 0
TakesFew sign n old new = (old.steps ≤ new.steps) × (new.steps ≤ old.steps + plane_limit sign n)

-- all pages so far took no more steps over the string than drawing one may take (own)
abbrev pub IsReadFew : PagesState → Type 0
IsReadFew pages = (pages.string_started ≤ pages.string.source.steps)
    × (pages.string.source.steps ≤ pages.string_started + reading_limit (length pages.string.source.octets))

-- and no more over the plane (own)
abbrev pub IsDrawnFew : PagesState → Type 0
IsDrawnFew pages = (pages.plane_started ≤ pages.plane.steps)
    × (pages.plane.steps ≤ pages.plane_started + plane_limit pages.string.sign (length pages.string.source.octets))
