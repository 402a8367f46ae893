-- The defaults that a sign takes, and why it refuses others.
use Rattle.std.specs.Prelude.{ℕ, Bool, not, ◌&&◌, nat_le, List, [], ◌∷◌, find, Option, option_map, is_some}
use Rattle.sign_font.specs.declared.fault.DefaultFault.{DefaultFault}
use Rattle.sign_font.specs.declared.fault.DefaultFault.TheVariants.{Value, FontUnknown}
use Rattle.sign_font.specs.declared.parts.Defaults.{Defaults}
use Rattle.sign_font.specs.Limits.{are_known}
use Rattle.sign_font.specs.Sign.{SignData, font_numbered}

-- a sign under other defaults is the same sign with those (own)
abbrev pub under : SignData → Defaults → SignData
under sign defaults = record sign { defaults = defaults }

-- each default is a value of its object: the font's number isn't 0, and justifications and colours are known
-- (NTCIP 1203 v03, group multiCfg)
abbrev pub are_values : Defaults → Bool
are_values defaults = nat_le 1 defaults.font && are_known defaults

-- what defaults owe to a sign, in order, each with the fault of defaults that don't keep it (own)
abbrev pub default_limits : SignData → Defaults → List (Bool × DefaultFault)
default_limits sign defaults = (are_values defaults, Value) ∷ (is_some (font_numbered sign defaults.font), FontUnknown) ∷ []

-- why the sign refuses these defaults, if it does (own)
abbrev pub default_fault : SignData → Defaults → Option DefaultFault
default_fault sign defaults = option_map (λ limit. limit.1) (find (λ limit. not limit.0) (default_limits sign defaults))
