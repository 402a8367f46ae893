-- The pages of a text on the sign that a controller of a handle holds.
use Rattle.std.specs.Prelude.{◌≡◌, ◌⊎◌, ◌<◌, ℕ, ◌*◌, true, false, List, Option, Some, None, IsSomeAnd, length}
use Rattle.page_plane.specs.Octets.{row_octets}
use Rattle.multi_meaning.specs.declared.times.Shown.{Shown}
use Rattle.multi_meaning.specs.declared.times.Shown.TheVariants.{Page}
use Rattle.sign_control.specs.Colours.{WritesColours}
use Rattle.sign_control.specs.declared.page.NoPage.{NoPage}
use Rattle.sign_control.specs.declared.page.NoPage.TheVariants as why
use Rattle.sign_control.specs.State.{ControllerData}
use Rattle.sign_font.specs.Sign.{SignData}
use Rattle.latsefur_c.specs.declared.seen.When.TheVariants as when
use Rattle.latsefur_c.specs.Drawn.{IsAccepted, IsNotAccepted, IsPlane, IsSeen, LacksPage}
use Rattle.latsefur_c.specs.Framed.{StandsInFront}
use Rattle.latsefur_c.specs.Held.{IsIn}
use Rattle.latsefur_c.specs.HeldSign.{sign_in_force}

-- the number that says why a text has no page to be drawn (own)
abbrev pub why_undrawn : NoPage → ℕ
why_undrawn why.TooLong = 7
why_undrawn why.Refused = 1
why_undrawn why.Number = 6

-- a text has no such page on a sign: it isn't accepted, or it is and has fewer pages (6) (own)
abbrev pub IsUndrawn : SignData → List ℕ → ℕ → ℕ → ℕ → Type 0
IsUndrawn sign text page phase outcome =
    IsNotAccepted sign text outcome ⊎ ((outcome ≡ 6) × IsAccepted sign text × LacksPage text (when.Page page phase))

-- a page of a text is drawn, or the outcome says why it isn't; or the text has no such page, and nothing is drawn (own)
abbrev pub DrawsText : SignData → List ℕ → ℕ → ℕ → Type 0 → List ℕ → List ℕ → ℕ → Type 0
DrawsText sign text page phase Is old new outcome =
    (IsUndrawn sign text page phase outcome × (new ≡ old)) ⊎ (IsSeen sign text (when.Page page phase) × Is)

-- the plane of a colour stands at the front of a buffer; or this is too small for it (5), and stays as it was (own)
abbrev pub FitsPlane : SignData → (List ℕ → Type 0) → List ℕ → List ℕ → ℕ → Type 0
FitsPlane sign Is old new outcome =
    ((outcome ≡ 5) × (length old < row_octets sign.width * sign.height) × (new ≡ old)) ⊎ ((outcome ≡ 0) × StandsInFront Is old new)

-- the plane of a colour of a page of a text is drawn on a sign (own)
abbrev pub DrawsPage : SignData → List ℕ → ℕ → ℕ → ℕ → List ℕ → List ℕ → ℕ → Type 0
DrawsPage sign text page phase colour old new outcome =
    DrawsText sign text page phase (FitsPlane sign (IsPlane text (when.Page page phase) colour sign) old new outcome) old new outcome

-- the colours of all pixels stand at the front of a buffer; or this is too small for them (5), and stays as it was (own)
abbrev pub FitsColours : SignData → List ℕ → Shown → List ℕ → List ℕ → ℕ → Type 0
FitsColours sign text shown old new outcome =
    ((outcome ≡ 5) × WritesColours sign text shown old new false) ⊎ ((outcome ≡ 0) × WritesColours sign text shown old new true)

-- a page of a text is drawn on a sign in all its colours (own)
abbrev pub PaintsPage : SignData → List ℕ → ℕ → ℕ → List ℕ → List ℕ → ℕ → Type 0
PaintsPage sign text page phase old new outcome =
    DrawsText sign text page phase (FitsColours sign text (Page page phase) old new outcome) old new outcome

-- a page is drawn on the sign that is held, by the defaults in force, and state and sign stay; or there is no controller (9), and
-- nothing is drawn (own)
abbrev pub DrawsHeld : Option ControllerData → List ℕ → ℕ → ℕ → ℕ → Option ControllerData → List ℕ → List ℕ → ℕ → Type 0
DrawsHeld None text page phase colour new old buffer outcome = (outcome ≡ 9) × (new ≡ None) × (buffer ≡ old)
DrawsHeld (Some held) text page phase colour new old buffer outcome =
    IsSomeAnd new (IsIn held) × DrawsPage (sign_in_force held) text page phase colour old buffer outcome

-- the same in all colours (own)
abbrev pub PaintsHeld : Option ControllerData → List ℕ → ℕ → ℕ → Option ControllerData → List ℕ → List ℕ → ℕ → Type 0
PaintsHeld None text page phase new old buffer outcome = (outcome ≡ 9) × (new ≡ None) × (buffer ≡ old)
PaintsHeld (Some held) text page phase new old buffer outcome =
    IsSomeAnd new (IsIn held) × PaintsPage (sign_in_force held) text page phase old buffer outcome
