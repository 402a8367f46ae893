-- What a checked string is seen as.
use Rattle.multi_token.specs.Counted.{Counted}
use Rattle.sign_font.specs.Sign.{SignData}

-- the sign that judged the string, with its defaults then, and the counted source of its octets (own)
pub record CheckedData : Type 0 where
  pub sign : SignData
  pub source : Counted
