-- What holds of every controller.
use Rattle.std.specs.Prelude.{◌≡◌, ◌≤◌, ◌*◌, ℕ, List, length, None, IfSome}
use Rattle.sign_font.specs.declared.parts.Defaults.{Defaults}
use Rattle.sign_font.specs.Defaults.{default_fault, under}
use Rattle.sign_font.specs.Sign.{SignData}
use Rattle.sign_font.specs.Sound.{IsSound}
use Rattle.page_plane.specs.Plane.{BitPlane}
use Rattle.multi_meaning.specs.Verdict.{Accepted, verdict}
use Rattle.multi_layout.specs.Pages.{IsSized}
use Rattle.message_store.specs.Ranged.{AreRanged}
use Rattle.message_store.specs.Slot.{StoreData}
use Rattle.sign_control.specs.declared.display.Display.{Display}

-- the sign accepts the text (own)
abbrev pub IsAccepted : SignData → List ℕ → Type 0
IsAccepted sign text = (pages : ℕ) × (verdict sign text ≡ Accepted pages)

-- what holds of every controller: the sign takes the defaults in force and those of the display, it accepts the display's
-- text by these, and text, plane and remaining time are within their memory and limits (own)
pub record IsReady (sign : SignData) (store : StoreData) (defaults : Defaults) (display : Display) (text : List ℕ) (capacity : ℕ)
    (plane : BitPlane) : Type 0 where
  pub sound : IsSound sign
  pub taken : default_fault sign defaults ≡ None
  pub shown_taken : default_fault sign display.defaults ≡ None
  pub accepted : IsAccepted (under sign display.defaults) text
  pub short : length text ≤ 4096
  pub fits : length text ≤ store.limits.max_string
  pub longest : store.limits.max_string ≤ 4096
  pub room : store.limits.max_string ≤ capacity
  pub size : IsSized plane sign
  pub ranged : AreRanged display.priority display.beacon display.pixel
  pub limited : IfSome display.remaining (λ remaining. remaining ≤ 65534 * 600)
