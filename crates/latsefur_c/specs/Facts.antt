-- What a sign is.
use Rattle.std.specs.Prelude.{◌≡◌, ◌⊎◌, ℕ, List, Some, if◌then◌else◌}
use Rattle.sign_font.specs.Sign.{SignData}
use Rattle.latsefur_c.specs.declared.facts.LatsefurSign.{LatsefurSign}
use Rattle.latsefur_c.specs.Outcome.{HasNoSign, sign_of_file}

-- the size, the most pages and the colours of a sign (NTCIP 1203 v03, objects vmsSignWidthPixels,
-- vmsSignHeightPixels, dmsMaxNumberPages and dmsColorScheme; the numbers 1 and 0 for many colours and one are own)
abbrev pub facts_of : SignData → LatsefurSign
facts_of sign = record {
  width = sign.width;
  height = sign.height;
  max_pages = sign.max_pages;
  classic = if sign.classic then 1 else 0;
}

-- the sign of a sign file is told; or there is none, and what was told stays as it was (own)
abbrev pub TellsSign : List ℕ → LatsefurSign → LatsefurSign → ℕ → Type 0
TellsSign file old new outcome =
    (HasNoSign file outcome × (new ≡ old))
    ⊎ ((outcome ≡ 0) × ((sign : SignData) × (sign_of_file file ≡ Some sign) × (new ≡ facts_of sign)))
