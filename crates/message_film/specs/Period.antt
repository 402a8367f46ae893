-- After how many tenths of a second what a text shows begins again.
use Rattle.std.specs.Prelude.{◌≡◌, ◌≢◌, ◌⊎◌, ℕ, ◌+◌, ◌*◌, ◌%◌, ◌<◌, ◌≤◌, List, length, IfSome}
use Rattle.std.specs.List.{AllByRecursion}
use Rattle.std.specs.Option.{option_map_or}
use Rattle.sign_font.specs.declared.parts.Defaults.{Defaults}
use Rattle.sign_font.specs.Sign.{SignData}
use Rattle.multi_meaning.specs.Attributes.{given_flash}
use Rattle.multi_meaning.specs.declared.attributes.FlashTimes.{FlashTimes}
use Rattle.multi_meaning.specs.Meaning.{Meaning, meanings}
use Rattle.multi_meaning.specs.Times.{Times, cycle, page_times, shown}
use Rattle.message_film.specs.Moving.{seen_points}

-- a flash is over a whole number of times in some tenths of a second, or both its times are 0, and
-- it is no flash (NTCIP 1203 v03, MULTI tag 'fl'; the times of 0 are own)
abbrev pub Divides : ℕ → FlashTimes → Type 0
Divides tenths flash = (flash.on + flash.off ≡ 0) ⊎ ((times : ℕ) × (tenths ≡ times * (flash.on + flash.off)))

-- the flash that an item gives, if it gives one, is over a whole number of times (NTCIP 1203 v03, MULTI tag 'fl')
abbrev pub Allows : Defaults → ℕ → Meaning → Type 0
Allows defaults tenths item = IfSome (given_flash defaults item) (λ given. IfSome given (Divides tenths))

-- the times of a text's pages (NTCIP 1203 v03, MULTI tag 'pt')
abbrev pub times_of : SignData → List ℕ → List Times
times_of sign text = page_times sign (meanings text)

-- what is shown of a text is the same at each clock and these tenths of a second after it (own)
abbrev pub IsPeriod : SignData → List ℕ → ℕ → Type 0
IsPeriod sign text tenths =
    (side clock : ℕ) → seen_points side sign text (shown sign text (clock + tenths)) ≡ seen_points side sign text (shown sign text clock)

-- a law: several pages are shown over and over, each time for one cycle (NTCIP 1203 v03, MULTI tag 'pt'; that phases begin anew is own)
abbrev pub CycleIsPeriod : Type 0
CycleIsPeriod = (sign : SignData) (text : List ℕ) → length (times_of sign text) ≢ 1 → IsPeriod sign text (cycle (times_of sign text))

-- a law: one page, or a cycle of 0, is shown over and over, each time for as long as all its
-- flashes need together (NTCIP 1203 v03, MULTI tag 'fl'; which time this is is own)
abbrev pub FlashesHavePeriod : Type 0
FlashesHavePeriod = (sign : SignData) (text : List ℕ) (tenths : ℕ) → (length (times_of sign text) ≡ 1) ⊎ (cycle (times_of sign text) ≡ 0)
    → AllByRecursion (Allows sign.defaults tenths) (meanings text) → IsPeriod sign text tenths

-- the time of the flash that an item gives, on and off together, in tenths of a second; 0 where it
-- gives none (NTCIP 1203 v03, MULTI tag 'fl')
abbrev pub flash_time : Defaults → Meaning → ℕ
flash_time defaults item =
    option_map_or (λ given. option_map_or (λ (flash : FlashTimes). flash.on + flash.off) given 0) (given_flash defaults item) 0

-- the least multiple of some tenths of a second in which a flash of this time is over a whole
-- number of times; where there is no flash, these tenths themselves (own)
abbrev pub IsCommonTime : ℕ → ℕ → ℕ → Type 0
IsCommonTime tenths flash common =
    ((flash ≡ 0) × (common ≡ tenths))
    ⊎ ((1 ≤ flash) × ((times : ℕ) × (1 ≤ times) × (common ≡ times * tenths) × (common % flash ≡ 0)
    × ((fewer : ℕ) → 1 ≤ fewer → fewer < times → fewer * tenths % flash ≢ 0)))

-- some tenths of a second, at least one, in which each flash of a text is over a whole number of times (own)
abbrev pub EndsFlashes : SignData → List ℕ → ℕ → Type 0
EndsFlashes sign text tenths = (1 ≤ tenths) × AllByRecursion (Allows sign.defaults tenths) (meanings text)

-- the least such time; 4,294,967,295 tenths, the most that a clock has, stand for that long or longer (own)
pub record IsFlashPeriod (sign : SignData) (text : List ℕ) (tenths : ℕ) : Type 0 where
  pub some : 1 ≤ tenths
  pub least : (other : ℕ) → EndsFlashes sign text other → tenths ≤ other
  pub ends : tenths < 4294967295 → EndsFlashes sign text tenths

-- a text plays for one cycle before it begins anew; one page, or a cycle of 0, for as long as all its flashes need together (own)
abbrev pub PlaysFor : SignData → List ℕ → ℕ → Type 0
PlaysFor sign text tenths =
    ((length (times_of sign text) ≢ 1) × (1 ≤ tenths) × (tenths ≡ cycle (times_of sign text)))
    ⊎ (((length (times_of sign text) ≡ 1) ⊎ (cycle (times_of sign text) ≡ 0)) × IsFlashPeriod sign text tenths)
