-- How many steps judging a string takes (own).
use Rattle.std.specs.Prelude.{◌≡◌, ◌≤◌, ℕ, ◌+◌, ◌-◌, ◌*◌, ◌==◌, if◌then◌else◌, min, List, [], ◌∷◌, length, take, Some}
use Rattle.std.specs.List.{sum_by, take_while}
use Rattle.multi_token.specs.Reading.{is_plain, reading}
use Rattle.multi_token.specs.Spelling.{Item, Char, Tag, is_bracket, spell}
use Rattle.multi_tag.specs.declared.tag.Tag.TheVariants.{Font}
use Rattle.sign_font.specs.Sign.{SignData, cell_steps}
use Rattle.multi_meaning.specs.Filling.{longest_prefix}
use Rattle.multi_meaning.specs.Meaning.{Does, Faulty, Meaning, Shows, meaning}
use Rattle.multi_meaning.specs.Verdict.{Accepted, Refused, offences, verdict}
use Rattle.multi_meaning.specs.Words.{each_after}

-- the looks by which what is read of an item is judged: at the cell of a character, or at the font of a number (own)
abbrev pub looks : Meaning → ℕ
looks (Shows number) = cell_steps number
looks (Does (Font (Some pick))) = 1
looks means = 0

-- a tag at fault is read once more: its body with its last bracket, and then at most three octets for its name (own)
abbrev pub again : Meaning → List ℕ → ℕ
again (Faulty code) body = length body + 1 + min 3 (length body)
again means body = 0

-- the steps of an item, with so many octets from its first one on: that octet is read and looked up in the font in force. A
-- doubled bracket takes a read and a look more; a tag a read of the octet after its bracket, one for each of 26 octets from there
-- on, or of as many as there are, and what it is judged by (own)
abbrev pub item_steps : ℕ → Item → ℕ
item_steps left (Char number) = if is_bracket number then 4 else 2
item_steps left (Tag body) = 3 + min 26 (left - 1) + again (meaning (Tag body)) body + looks (meaning (Tag body))

-- the steps of items with which a string of this many octets begins (own)
abbrev pub items_steps : ℕ → List Item → ℕ
items_steps n items = sum_by (λ k. k) (each_after (λ before item. item_steps (n - length (spell before)) item) items)

-- the steps after the last item: the end is read. A broken bracket is read and looked up, and the octet after it is read; of
-- an opening one also 26 octets from there on or as many as there are, and then those up to the next bracket or the end (own)
abbrev pub rest_steps : List ℕ → ℕ
rest_steps [] = 1
rest_steps (bracket ∷ behind) = if bracket == 91 then 3 + min 26 (length behind) + (length (take_while is_plain behind) + 1) else 3

-- the longest front of items none of which offends (own)
abbrev pub fine_front : SignData → List Item → List Item
fine_front sign items = longest_prefix (λ front. length (offences sign front) == 0) items

-- the steps of judging a string of this many octets with these items and this rest: the items up to the first that offends, with
-- it; or else all items and the rest (own)
abbrev pub steps_on : SignData → ℕ → List Item → List ℕ → ℕ
steps_on sign n items rest =
    let fine = length (fine_front sign items) in
    items_steps n (take (fine + 1) items) + (if fine == length items then rest_steps rest else 0)

-- the steps of judging a string (own)
unfoldable pub judging_steps : SignData → List ℕ → ℕ
judging_steps sign octets = steps_on sign (length octets) (reading octets).items (reading octets).rest

-- a law: judging a string of n octets takes at most 9n + 1 steps, at least n + 1 where it is accepted, and one more than the
-- offset of the error where it is refused (own)
pub record TakesLinear (sign : SignData) (octets : List ℕ) : Type 0 where
  pub most : judging_steps sign octets ≤ 9 * length octets + 1
  pub accepted : (pages : ℕ) → verdict sign octets ≡ Accepted pages → length octets + 1 ≤ judging_steps sign octets
  pub refused : (code at : ℕ) → verdict sign octets ≡ Refused code at → at + 1 ≤ judging_steps sign octets

-- a law: it holds of every sign and string (own)
abbrev pub JudgingIsLinear : Type 0
JudgingIsLinear = (sign : SignData) (octets : List ℕ) → TakesLinear sign octets
