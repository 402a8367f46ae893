-- The drawing of pages, one after the other.
use Rattle.std.specs.Prelude.{⊤, ◌≡◌, ◌⊎◌, ℕ, ◌+◌, ◌-◌, ◌*◌, ◌≤◌, ◌==◌, List, length, map, if◌then◌else◌}
use Rattle.multi_token.specs.Counted.{Counted, RisesBetween}
use Rattle.page_plane.specs.Plane.{BitPlane}
use Rattle.sign_font.specs.Sign.{SignData, tallest}
use Rattle.multi_meaning.specs.declared.times.Shown.{Shown}
use Rattle.multi_meaning.specs.declared.times.Shown.TheVariants.{Page, Off}
use Rattle.multi_meaning.specs.internal.Bounds.{BeginsPage}
use Rattle.multi_meaning.specs.Meaning.{meanings}
use Rattle.multi_meaning.specs.Verdict.{pages_of}
use Rattle.multi_layout.specs.declared.cursor.Cursor.{Cursor}
use Rattle.multi_layout.specs.Limits.{plane_octets}
use Rattle.multi_layout.specs.internal.Cursors.{IsBetween, meant, LaidItem}

-- the cursor stands where a page of an accepted string begins (own)
abbrev pub IsPageStart : SignData → List ℕ → Cursor → Type 0
IsPageStart sign octets cursor =
    (before behind : List LaidItem) × IsBetween sign octets before behind cursor × BeginsPage (map meant before)

-- where this is shown, the page that is shown begins at the cursor (own)
abbrev pub IsStartOf : SignData → List ℕ → Shown → Cursor → Type 0
IsStartOf sign octets (Page page phase) cursor = IsPageStart sign octets cursor × (cursor.state.pages ≡ page + 1)
IsStartOf sign octets Off cursor = ⊤

-- the page that begins at the old cursor is passed: after the `np` that ends it the next begins at the new one, or the string ends (own)
pub record IsPagePassed (sign : SignData) (octets : List ℕ) (old new : Cursor) : Type 0 where
  pub on : old.at ≤ new.at
  pub within : new.at ≤ length octets
  pub ends :
      ((new.state.pages ≡ old.state.pages) × (old.state.pages ≡ pages_of (meanings octets)))
      ⊎ ((new.state.pages ≡ old.state.pages + 1) × IsPageStart sign octets new)

-- the steps over the string from cursor to cursor: each octet is read at most twice for the table of its area's lines, and at most
-- twice to draw; at the end of the string each of both takes one more (own)
abbrev pub IsReadTwice : Counted → Counted → Cursor → Cursor → Type 0
IsReadTwice source source' old new =
    RisesBetween source source' 0 (18 * (new.at - old.at) + (if new.state.pages == old.state.pages then 2 else 0))

-- the steps over the plane: a row for each row of each character, and a fill where the page begins and for each background; each
-- background and each `np` after the page has four octets, so that only the fill with which the last page begins has none (own)
pub record IsFilledFew (sign : SignData) (plane plane' : BitPlane) (old new : Cursor) : Type 0 where
  pub fills : ℕ
  pub least : plane.steps ≤ plane'.steps
  pub few : 4 * fills ≤ (new.at - old.at) + (if new.state.pages == old.state.pages then 4 else 0)
  pub most : plane'.steps ≤ plane.steps + tallest sign * (new.at - old.at) + plane_octets sign * fills
