-- How long a film lasts, and why there is none.
use Rattle.std.specs.Prelude.{◌≡◌, ℕ, ◌*◌, ◌<◌, ◌≤◌, List, Option, Some, None}
use Rattle.sign_font.specs.Sign.{SignData}
use Rattle.message_film.specs.declared.play.FilmFault.{FilmFault}
use Rattle.message_film.specs.declared.play.FilmFault.TheVariants.{Memory, TooLarge, TooLong}
use Rattle.message_film.specs.Looks.{FrontHasOctets}
use Rattle.message_film.specs.Moving.{in_tenths, moving}
use Rattle.message_film.specs.Period.{PlaysFor}
use Rattle.message_film.specs.Reel.{most_of_film}

-- a film of a text lasts for the seconds that are asked for, and else until the text begins anew (own)
abbrev pub Lasts : SignData → List ℕ → Option ℕ → ℕ → Type 0
Lasts sign text (Some seconds) tenths = tenths ≡ 10 * seconds
Lasts sign text None tenths = PlaysFor sign text tenths

-- a film of some tenths of a second is too large: the file of its beginning, or of all of it, has more than 64,000,000 octets (own)
pub record IsTooLarge (side : ℕ) (sign : SignData) (text : List ℕ) (tenths : ℕ) : Type 0 where
  pub octets : ℕ
  pub front : FrontHasOctets side sign.width sign.height (in_tenths (moving side sign text tenths)) octets
  pub larger : 64000000 < octets
  pub most : 64000000 ≤ most_of_film side sign.width sign.height tenths

-- why there is no film of some tenths of a second of a text: memory was refused, or it is too large (own)
abbrev pub IsUnmade : ℕ → SignData → List ℕ → ℕ → FilmFault → Type 0
IsUnmade side sign text tenths Memory = Unit {0}
IsUnmade side sign text tenths (TooLarge long) = (long ≡ tenths) × IsTooLarge side sign text tenths
IsUnmade side sign text tenths (TooLong long) = ⊥

-- no seconds are asked for, and a film of the text would last for this many tenths of a second, more than 6,000 (own)
abbrev pub IsTooLong : SignData → List ℕ → Option ℕ → FilmFault → Type 0
IsTooLong sign text seconds (TooLong tenths) = (seconds ≡ None) × PlaysFor sign text tenths × (6000 < tenths)
IsTooLong sign text seconds fault = ⊥

-- why there is no film of a text: memory was refused, or it is too large, or it would last too long (own)
abbrev pub IsNoFilm : ℕ → SignData → List ℕ → Option ℕ → FilmFault → Type 0
IsNoFilm side sign text seconds Memory = Unit {0}
IsNoFilm side sign text seconds (TooLarge tenths) = Lasts sign text seconds tenths × IsTooLarge side sign text tenths
IsNoFilm side sign text seconds (TooLong tenths) = IsTooLong sign text seconds (TooLong tenths)
