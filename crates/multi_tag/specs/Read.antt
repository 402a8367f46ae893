-- What a body is read as.
use Rattle.std.specs.Prelude.{◌≡◌, ℕ, List, Result, Ok}
use Rattle.multi_tag.specs.declared.tag.Tag.{Tag}
use Rattle.multi_tag.specs.declared.tag.TagFault.{TagFault}
use Rattle.multi_tag.specs.Body.{Spells}

-- a body spells no tag (NTCIP 1203 v03, MULTI)
abbrev pub SpellsNoTag : List ℕ → Type 0
SpellsNoTag body = (tag : Tag) → ¬ (Spells body tag)

-- every tag that a body spells is what was read of it (own)
abbrev pub IsReadOf : List ℕ → Result Tag TagFault → Type 0
IsReadOf body result = (tag : Tag) → Spells body tag → result ≡ Ok tag

-- a body spells at most one tag (own)
abbrev pub OneTagAtMost : Type 0
OneTagAtMost = (body : List ℕ) (a b : Tag) → Spells body a → Spells body b → a ≡ b
