-- When what a text shows changes: its page, an off time, or a flash (NTCIP 1203 v03, MULTI tags 'pt' and 'fl').
use Rattle.std.specs.Prelude.{◌≡◌, ◌⊎◌, ℕ, ◌+◌, ◌-◌, ◌%◌, ◌<◌, ◌≤◌, Bool, true, false, ◌||◌, ◌&&◌, ◌==◌, nat_lt, min, List, [], ◌∷◌, ◌++◌, length, Option, Some, None, if◌then◌else◌}
use Rattle.std.specs.List.{Contains, fold}
use Rattle.sign_font.specs.Sign.{SignData}
use Rattle.multi_meaning.specs.Address.{Standing, standing}
use Rattle.multi_meaning.specs.declared.attributes.FlashTimes.{FlashTimes}
use Rattle.multi_meaning.specs.declared.times.Shown.{Shown}
use Rattle.multi_meaning.specs.declared.times.Shown.TheVariants.{Page, Off}
use Rattle.multi_meaning.specs.Meaning.{Meaning, Shows, meanings}
use Rattle.multi_meaning.specs.Picture.{is_lit_at, pixel_at}
use Rattle.multi_meaning.specs.Times.{Times, cycle, page_times, shown, shown_within}
use Rattle.multi_meaning.specs.Words.{some_after}

-- the sooner of two changes, in tenths of a second from now on; `None` is never (own)
abbrev pub sooner : Option ℕ → Option ℕ → Option ℕ
sooner None other = other
sooner (Some one) None = Some one
sooner (Some one) (Some other) = Some (min one other)

-- the tenths from a time within some tenths to the end of their first part, or from there on to their end (own)
abbrev pub part_left : ℕ → ℕ → ℕ → ℕ
part_left first whole time = if nat_lt time first then first - time else whole - time

-- the tenths from a phase to the next change of a flash; where one of its times is 0 it never changes (NTCIP 1203 v03, MULTI tag 'fl'; the
-- times of 0 are own)
abbrev pub flash_left : ℕ → Option FlashTimes → Option ℕ
flash_left phase None = None
flash_left phase (Some flash) =
    if (flash.on == 0) || (flash.off == 0) then None
    else Some (part_left (if flash.off_first then flash.off else flash.on) (flash.on + flash.off) (phase % (flash.on + flash.off)))

-- the soonest change of some flashes from a phase on (own)
abbrev pub flashes_left : ℕ → List (Option FlashTimes) → Option ℕ
flashes_left phase flashes = fold (λ soonest flash. sooner soonest (flash_left phase flash)) None flashes

-- an item shows a character (NTCIP 1203 v03, MULTI)
abbrev pub is_shown : Meaning → Bool
is_shown (Shows number) = true
is_shown _ = false

-- the flash in force where an item stands, if it shows a character on this page (NTCIP 1203 v03, MULTI tag 'fl')
abbrev pub flash_on : ℕ → Standing → Meaning → Option (Option FlashTimes)
flash_on page at item = if is_shown item && (at.page == page) then Some at.flash else None

-- the flashes in force where the characters of a page stand, which is counted from 0 (NTCIP 1203 v03, MULTI tag 'fl')
unfoldable pub page_flashes : SignData → List Meaning → ℕ → List (Option FlashTimes)
page_flashes sign items page = some_after (λ before item. flash_on page (standing sign before) item) items

-- the tenths from a time on to the end of the on time or of the off time in which it is, where these pages are shown in turn from 0 on
-- (NTCIP 1203 v03, MULTI tag 'pt')
abbrev pub times_left : List Times → ℕ → ℕ
times_left [] time = 0
times_left (page ∷ pages) time =
    if nat_lt time (page.on + page.off) then part_left page.on (page.on + page.off) time else times_left pages (time - (page.on + page.off))

-- the next change of what is shown at a time of the cycle: of a page the end of its on time or a change of one of its flashes, and else
-- the end of the off time (own)
abbrev pub change_of : SignData → List Meaning → ℕ → Shown → Option ℕ
change_of sign items left (Page page phase) = sooner (flashes_left phase (page_flashes sign items page)) (Some left)
change_of sign items left Off = Some left

-- the same for a time of the cycle, whose part is told by the times of the pages (own)
abbrev pub change_within : SignData → List Meaning → ℕ → Option ℕ
change_within sign items time = let pages = page_times sign items in change_of sign items (times_left pages time) (shown_within pages time)

-- the tenths from a clock to the next change of what the items show: of one page, or of a cycle of 0, the next change of a flash of
-- page 0 (own)
unfoldable pub change_at : SignData → List Meaning → ℕ → Option ℕ
change_at sign items clock =
    let pages = page_times sign items in
    if (length pages == 1) || (cycle pages == 0) then flashes_left clock (page_flashes sign items 0)
    else change_within sign items (clock % cycle pages)

-- some tenths pass before a change, if there is one (own)
abbrev pub IsBefore : ℕ → Option ℕ → Type 0
IsBefore tenths None = Unit {0}
IsBefore tenths (Some left) = tenths < left

-- the same page is shown, or nothing (own)
abbrev pub IsSamePage : Shown → Shown → Type 0
IsSamePage (Page page phase) (Page other later) = other ≡ page
IsSamePage Off Off = Unit {0}
IsSamePage _ _ = ⊥

-- a law: until the next change a text shows the same page, or nothing, and every pixel keeps its colour (NTCIP 1203 v03, MULTI tags
-- 'pt' and 'fl')
abbrev pub Stays : Type 0
Stays = (sign : SignData) (text : List ℕ) (clock tenths : ℕ) → IsBefore tenths (change_at sign (meanings text) clock)
    → IsSamePage (shown sign text clock) (shown sign text (clock + tenths))
    × ((colour column row : ℕ) → pixel_at sign (meanings text) (shown sign text (clock + tenths)) colour column row
    ≡ pixel_at sign (meanings text) (shown sign text clock) colour column row)

-- a law: a change is at least one tenth of a second away (own)
abbrev pub ComesLater : Type 0
ComesLater = (sign : SignData) (text : List ℕ) (clock left : ℕ) → change_at sign (meanings text) clock ≡ Some left → 1 ≤ left

-- a flash of a character of a page turns at a phase of it: there it is lit and a tenth before it isn't, or the other way round
-- (NTCIP 1203 v03, MULTI tag 'fl')
abbrev pub TurnsFlash : SignData → List Meaning → ℕ → ℕ → Type 0
TurnsFlash sign items page phase =
    (flash : Option FlashTimes) × Contains (page_flashes sign items page) flash
    × (is_lit_at phase flash ≡ is_lit_at (phase - 1) flash → ⊥)

-- at a time from the beginning of the cycle on, the on time or the off time of a page ends (NTCIP 1203 v03, MULTI tag 'pt')
abbrev pub EndsPart : List Times → ℕ → Type 0
EndsPart pages time = (before : List Times) × (here : Times) × (after : List Times) × (pages ≡ before ++ here ∷ after)
    × ((time ≡ cycle before + here.on) ⊎ (time ≡ cycle before + here.on + here.off))

-- so many tenths after a time of the cycle something changes: the on time or the off time that the time is in ends, or a flash of the page
-- that is shown turns (own)
abbrev pub TurnsAfter : SignData → List Meaning → ℕ → ℕ → Shown → Type 0
TurnsAfter sign items time left Off = EndsPart (page_times sign items) (time + left)
TurnsAfter sign items time left (Page page phase) =
    TurnsFlash sign items page (phase + left) ⊎ EndsPart (page_times sign items) (time + left)

-- so many tenths after a clock what is shown changes, where page 0 is always shown, or where pages are shown in turn (own)
abbrev pub ChangesWhere : Bool → SignData → List Meaning → ℕ → ℕ → Type 0
ChangesWhere true sign items clock left = TurnsFlash sign items 0 (clock + left)
ChangesWhere false sign items clock left =
    let pages = page_times sign items in
    let time = clock % cycle pages in
    TurnsAfter sign items time left (shown_within pages time)

-- so many tenths after a clock what the items show changes; of one page, or of a cycle of 0, page 0 is always shown (own)
abbrev pub Changes : SignData → List Meaning → ℕ → ℕ → Type 0
Changes sign items clock left =
    ChangesWhere ((length (page_times sign items) == 1) || (cycle (page_times sign items) == 0)) sign items clock left

-- a law: at the next change something does change (own)
abbrev pub DoesChange : Type 0
DoesChange = (sign : SignData) (text : List ℕ) (clock left : ℕ) → change_at sign (meanings text) clock ≡ Some left
    → Changes sign (meanings text) clock left
