-- Laws of filling and of what fits.
use Rattle.std.specs.Prelude.{◌≡◌, ℕ, ◌≤◌, true, ◌⊎◌, List, [], ◌∷◌, ◌++◌, map, None}
use Rattle.std.specs.List.{count_by}
use Rattle.multi_tag.specs.declared.tag.Tag.TheVariants.{NewLine}
use Rattle.multi_tag.specs.Just.{page_number}
use Rattle.multi_token.specs.Spelling.{Item}
use Rattle.sign_font.specs.Sign.{SignData}
use Rattle.multi_meaning.specs.Address.{in_area, in_group, is_break, spots, standing}
use Rattle.multi_meaning.specs.Fit.{fit}
use Rattle.multi_meaning.specs.Laid.{laid_out}
use Rattle.multi_meaning.specs.Meaning.{Meaning, Shows, Does, meaning}
use Rattle.multi_meaning.specs.Verdict.{offences}

-- a law: after items of which none offends, one more item, whatever it is, stands as itself, and those before it stay laid out as
-- they were, so that every break of filling is kept; or all is so but one space, the character 32, which ends its line now. It
-- stands on the line of the new item: its area and its page justification are the same, and as many ends of lines stand before
-- it. It may be the new item itself (own)
abbrev pub KeepsBreaks : Type 0
KeepsBreaks = (sign : SignData) (before : List Item) (item : Item) → offences sign before ≡ [] →
    let items = map meaning before in
    let next = meaning item in
    let old = laid_out sign items in
    let here = standing sign items in
    let ended = λ (laid : List Meaning). count_by is_break (in_group (page_number here.page_just) (in_area here.area (spots sign laid))) in
    (laid_out sign (items ++ next ∷ []) ≡ old ++ next ∷ [])
    ⊎ ((front : List Meaning) × (behind : List Meaning) × (old ++ next ∷ [] ≡ front ++ Shows 32 ∷ behind)
    × (laid_out sign (items ++ next ∷ []) ≡ front ++ Does (NewLine None) ∷ behind)
    × ((standing sign front).area ≡ here.area) × ((standing sign front).page_just ≡ here.page_just) × (ended front ≡ ended old))

-- a law: what fits still fits when its parts shrink (own)
abbrev pub SmallerFits : Type 0
SmallerFits = (a b c a' b' c' length : ℕ) → a' ≤ a → b' ≤ b → c' ≤ c → fit a b c length ≡ true → fit a' b' c' length ≡ true
