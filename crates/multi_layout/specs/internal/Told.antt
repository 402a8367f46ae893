-- The verdict on a string, with the steps that it took (own).
use Rattle.std.specs.Prelude.{◌≡◌, ℕ, ◌^◌, ◌<◌, List, length}
use Rattle.multi_token.specs.Counted.{Counted}
use Rattle.sign_font.specs.Sign.{SignData}
use Rattle.multi_meaning.specs.Codes.{code_of}
use Rattle.multi_meaning.specs.Steps.{judging_steps}
use Rattle.multi_meaning.specs.Verdict.{Accepted, IsCycle, IsVerdict, Refused}
use Rattle.multi_layout.specs.declared.checked.Told.{Told}
use Rattle.multi_layout.specs.declared.verdict.Offence.{Offence}

-- these are the pages of an accepted string, and the times of all of them together (own)
pub record IsToldOf (sign : SignData) (octets : List ℕ) (told : Told) : Type 0 where
  pub pages : IsVerdict sign octets (Accepted told.pages)
  pub cycle : IsCycle sign octets told.cycle
  pub short : length octets < 2 ^ 32

-- the item at an offset is the first one that offends, by this error, and this took what judging the string takes (own)
pub record IsRefused (sign : SignData) (octets : List ℕ) (offence : Offence) (source : Counted) : Type 0 where
  pub verdict : IsVerdict sign octets (Refused (code_of offence.error) offence.at)
  pub before_end : offence.at < length octets
  pub same : source.octets ≡ octets
  pub steps : source.steps ≡ judging_steps sign octets

-- all items are judged and none offends, these are the string's pages and the times of them together, and this took what judging the
-- string takes (own)
pub record IsTold (sign : SignData) (octets : List ℕ) (pages tenths : ℕ) (source : Counted) : Type 0 where
  pub verdict : IsVerdict sign octets (Accepted pages)
  pub cycle : IsCycle sign octets tenths
  pub same : source.octets ≡ octets
  pub steps : source.steps ≡ judging_steps sign octets
