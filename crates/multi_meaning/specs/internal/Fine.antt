-- Items of which none offends.
use Rattle.std.specs.Prelude.{◌≡◌, ℕ, ◌^◌, ◌<◌, List, [], length, Bool, false, Option}
use Rattle.std.specs.List.{All}
use Rattle.multi_token.specs.Spelling.{Item, IsItem, spell}
use Rattle.sign_font.specs.declared.parts.LineFill.TheVariants.{Off}
use Rattle.sign_font.specs.Sign.{SignData}
use Rattle.multi_meaning.specs.Meaning.{Meaning}
use Rattle.multi_meaning.specs.Offence.{offence, offence_by}
use Rattle.multi_meaning.specs.Verdict.{offences}
use Rattle.multi_meaning.specs.Words.{some_after}
use Rattle.multi_meaning.specs.Address.{Spot}

-- nothing is too big (own)
abbrev pub never_big : List Spot → Spot → Bool
never_big before spot = false

-- the error of an item after the items before it, if it offends by more than its size (own)
abbrev pub unsized_offence : SignData → List Meaning → Meaning → Option ℕ
unsized_offence sign before item = offence_by never_big sign before item

-- no item of these offends after those before it, where lines aren't filled (own)
abbrev pub IsFine : SignData → List Meaning → Type 0
IsFine sign items = some_after (offence Off sign) items ≡ []

-- no item of these offends after those before it by more than its size (own)
abbrev pub IsOrderly : SignData → List Meaning → Type 0
IsOrderly sign items = some_after (unsized_offence sign) items ≡ []

-- these are the items of an accepted string: it spells them, and none offends (own)
pub record IsAccepted (sign : SignData) (octets : List ℕ) (items : List Item) : Type 0 where
  pub each : All IsItem items
  pub spelled : octets ≡ spell items
  pub none : offences sign items ≡ []
  pub short : length octets < 2 ^ 32
