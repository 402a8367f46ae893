-- How far a string was read and judged (own).
use Rattle.std.specs.Prelude.{◌≡◌, ℕ, ◌+◌, ◌≤◌, List, [], ◌++◌, length, drop, map, Option, option_map, slice_get}
use Rattle.std.specs.List.{All}
use Rattle.multi_token.specs.Counted.{Counted}
use Rattle.multi_token.specs.Run.{look_steps}
use Rattle.multi_token.specs.Spelling.{Item, IsItem, spell}
use Rattle.multi_token.specs.declared.source.Entry.{Entry}
use Rattle.sign_font.specs.Advance.{advance_of}
use Rattle.sign_font.specs.Sign.{FontData, SignData}
use Rattle.sign_font.specs.Text.{width_numbered}
use Rattle.multi_meaning.specs.Meaning.{Meaning, meaning}
use Rattle.multi_meaning.specs.Steps.{items_steps}
use Rattle.multi_meaning.specs.Verdict.{offences}

-- an octet, with what the table of a font has for it (own)
abbrev pub entry_in : FontData → ℕ → Entry
entry_in font octet = record { octet = octet; advance = advance_of (width_numbered font) octet }

-- the items before an offset, none of which offends, with their steps, and what is kept of them (own)
pub record ReadSoFar (sign : SignData) (octets : List ℕ) (at steps : ℕ) (IsKept : List Meaning → Type 0) : Type 0 where
  pub items : List Item
  pub each : All IsItem items
  pub front : octets ≡ spell items ++ drop at octets
  pub place : at ≡ length (spell items)
  pub within : at ≤ length octets
  pub none : offences sign items ≡ []
  pub taken : steps ≡ items_steps (length octets) items
  pub is : IsKept (map meaning items)

-- the items before an offset are judged, for their steps (own)
pub record IsBehind (sign : SignData) (octets : List ℕ) (at : ℕ) (IsKept : List Meaning → Type 0) (source : Counted) : Type 0 where
  pub so_far : ReadSoFar sign octets at source.steps IsKept
  pub same : source.octets ≡ octets

-- the items before an offset are judged, and what stands there is read and looked up in the table of a font, for its steps more (own)
pub record IsAt (sign : SignData) (octets : List ℕ) (at : ℕ) (font : FontData) (first : Option Entry)
    (IsKept : List Meaning → Type 0) (source : Counted) : Type 0
  where
    pub before : ℕ
    pub so_far : ReadSoFar sign octets at before IsKept
    pub entry : first ≡ option_map (entry_in font) (slice_get octets at)
    pub same : source.octets ≡ octets
    pub steps : source.steps ≡ before + look_steps (length octets) at
