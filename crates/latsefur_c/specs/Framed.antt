-- The frame of the display, as a host gets it.
use Rattle.std.specs.Prelude.{◌≡◌, ◌⊎◌, ◌<◌, ℕ, ◌*◌, true, false, List, Option, Some, None, IsSomeAnd, ◌++◌, drop, length}
use Rattle.page_plane.specs.Octets.{octet_count, row_octets}
use Rattle.page_plane.specs.Plane.{BitPlane, is_lit}
use Rattle.multi_meaning.specs.Meaning.{meanings}
use Rattle.multi_meaning.specs.Picture.{pixel_at}
use Rattle.multi_meaning.specs.Times.{shown}
use Rattle.sign_font.specs.Defaults.{under}
use Rattle.sign_control.specs.Colours.{WritesColours}
use Rattle.sign_control.specs.Headline.{shown_by, shown_now}
use Rattle.sign_control.specs.State.{ControllerData}
use Rattle.latsefur_c.specs.declared.shown.LatsefurShown.{LatsefurShown}
use Rattle.latsefur_c.specs.Drawn.{HoldsPlane, IsShownAs}
use Rattle.latsefur_c.specs.Held.{IsIn}

-- a picture stands at the front of a buffer, and what is after it is as it was (own)
abbrev pub StandsInFront : (List ℕ → Type 0) → List ℕ → List ℕ → Type 0
StandsInFront Is old new = (picture : List ℕ) × Is picture × (new ≡ picture ++ drop (length picture) old)

-- the octets of a plane stand at the front of a buffer; or it is too small for them (5), and stays as it was (own)
abbrev pub WritesPlane : BitPlane → List ℕ → List ℕ → ℕ → Type 0
WritesPlane plane old new outcome =
    ((outcome ≡ 5) × (length old < octet_count plane) × (new ≡ old))
    ⊎ ((outcome ≡ 0) × StandsInFront (HoldsPlane plane.width plane.height (is_lit plane)) old new)

-- the plane of a colour of what the display shows at its clock, by the defaults with which it is shown (own)
abbrev pub IsFrameOf : ControllerData → ℕ → List ℕ → Type 0
IsFrameOf controller colour =
    let sign = under controller.sign controller.state.display.defaults in
    HoldsPlane controller.sign.width controller.sign.height
    (pixel_at sign (meanings controller.state.text) (shown sign controller.state.text controller.state.display.clock) colour)

-- the frame stands at the front of a buffer, and the page is told; or the buffer is too small (5), and nothing is told (own)
abbrev pub DrawsFrame : ControllerData → ℕ → LatsefurShown → LatsefurShown → List ℕ → List ℕ → ℕ → Type 0
DrawsFrame controller colour was told old new outcome =
    ((outcome ≡ 5) × (length old < row_octets controller.sign.width * controller.sign.height) × (told ≡ was) × (new ≡ old))
    ⊎ ((outcome ≡ 0) × StandsInFront (IsFrameOf controller colour) old new
    × IsShownAs (shown (under controller.sign controller.state.display.defaults) controller.state.text controller.state.display.clock) told)

-- the colours of all pixels of what the display shows stand at the front of a buffer, and the page is told; or the buffer is too small
-- (5), and nothing is told (own)
abbrev pub PaintsFrame : ControllerData → LatsefurShown → LatsefurShown → List ℕ → List ℕ → ℕ → Type 0
PaintsFrame controller was told old new outcome =
    let sign = shown_by controller.sign controller.state in
    let seen = shown_now controller.sign controller.state in
    ((outcome ≡ 5) × WritesColours sign controller.state.text seen old new false × (told ≡ was))
    ⊎ ((outcome ≡ 0) × WritesColours sign controller.state.text seen old new true × IsShownAs seen told)

-- the same of the controller of a handle, whose state and sign stay; or there is none (9), and nothing is done (own)
abbrev pub Paints : Option ControllerData → Option ControllerData → LatsefurShown → LatsefurShown → List ℕ → List ℕ → ℕ → Type 0
Paints None new was told old buffer outcome = (outcome ≡ 9) × (new ≡ None) × (told ≡ was) × (buffer ≡ old)
Paints (Some held) new was told old buffer outcome = IsSomeAnd new (IsIn held) × PaintsFrame held was told old buffer outcome

-- the frame of a colour of the controller of a handle, whose state and sign stay; or there is none (9), and nothing is done (own)
abbrev pub Frames : Option ControllerData → ℕ → Option ControllerData → LatsefurShown → LatsefurShown → List ℕ → List ℕ → ℕ → Type 0
Frames None colour new was told old buffer outcome = (outcome ≡ 9) × (new ≡ None) × (told ≡ was) × (buffer ≡ old)
Frames (Some held) colour new was told old buffer outcome = IsSomeAnd new (IsIn held) × DrawsFrame held colour was told old buffer outcome
