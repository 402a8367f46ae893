-- What messages are explained with.
use Rattle.std.specs.Prelude.{ℕ}
use Rattle.sign_font.specs.Sign.{SignData}

-- a sign, and the most octets of a text that its message table takes (own)
pub record ExplainerData : Type 0 where
  pub sign : SignData
  pub most : ℕ
