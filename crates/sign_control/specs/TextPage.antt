-- The pages of a text that isn't shown.
use Rattle.std.specs.Prelude.{◌≤◌, ◌<◌, ◌^◌, ℕ, ◌+◌, nat_lt, List, length, if◌then◌else◌}
use Rattle.sign_font.specs.Defaults.{under}
use Rattle.sign_font.specs.Sign.{SignData}
use Rattle.multi_meaning.specs.Meaning.{meanings}
use Rattle.multi_meaning.specs.Steps.{judging_steps}
use Rattle.multi_meaning.specs.Verdict.{Accepted, IsVerdict, Refused, pages_of}
use Rattle.multi_layout.specs.Limits.{check_limit, drawing_limit}
use Rattle.sign_control.specs.declared.page.NoPage.{NoPage}
use Rattle.sign_control.specs.declared.page.NoPage.TheVariants as why
use Rattle.sign_control.specs.State.{StateData}

-- the sign with the defaults in force (NTCIP 1203 v03, group multiCfg)
abbrev pub in_force : SignData → StateData → SignData
in_force sign state = under sign state.defaults

-- a text isn't too long to be judged (own)
abbrev pub IsShort : List ℕ → Type 0
IsShort text = length text < 2 ^ 32

-- a sign accepts a text (NTCIP 1203 v03, dmsMultiSyntaxError)
abbrev pub Accepts : SignData → List ℕ → Type 0
Accepts sign text = IsShort text × ((pages : ℕ) × IsVerdict sign text (Accepted pages))

-- a sign accepts a text, which has this page, counted from 0 (NTCIP 1203 v03, MULTI tag 'np')
abbrev pub HasPage : SignData → List ℕ → ℕ → Type 0
HasPage sign text page = Accepts sign text × (page < pages_of (meanings text))

-- why a text has no such page: it is too long to be judged, or the sign refuses it, or it has fewer pages (own)
abbrev pub LacksPage : SignData → List ℕ → ℕ → NoPage → Type 0
LacksPage sign text page why.TooLong = 2 ^ 32 ≤ length text
LacksPage sign text page why.Refused = IsShort text × ((code : ℕ) × (at : ℕ) × IsVerdict sign text (Refused code at))
LacksPage sign text page why.Number = Accepts sign text × (pages_of (meanings text) ≤ page)

-- the steps of judging a text that isn't too long for it (own)
abbrev pub tried_steps : SignData → List ℕ → ℕ
tried_steps sign text = if nat_lt (length text) (2 ^ 32) then judging_steps sign text else 0

-- the most steps of judging a text and drawing a page of it (own)
abbrev pub page_limit : SignData → ℕ → ℕ
page_limit sign n = check_limit n + drawing_limit sign n
