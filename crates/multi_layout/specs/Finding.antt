-- How many steps going on through an accepted string takes, where nothing is judged and nothing drawn (own).
use Rattle.std.specs.Prelude.{ℕ, zero, suc, ◌+◌, ◌-◌, ◌%◌, ◌==◌, ◌||◌, if◌then◌else◌, min, nat_lt, List, [], ◌∷◌, length, map}
use Rattle.std.specs.List.{sum_by}
use Rattle.multi_token.specs.Reading.{reading}
use Rattle.multi_token.specs.Spelling.{Item, Char, Tag, is_bracket, spell}
use Rattle.sign_font.specs.Sign.{SignData}
use Rattle.multi_meaning.specs.Meaning.{Meaning, Shows, meaning, meanings}
use Rattle.multi_meaning.specs.Steps.{looks}
use Rattle.multi_meaning.specs.Times.{Times, cycle, page_times}
use Rattle.multi_meaning.specs.Verdict.{pages_of}
use Rattle.multi_meaning.specs.Words.{each_after}

-- the steps of reading an item with so many octets from its first one on: that octet; of a doubled bracket the second; of a tag the octet
-- after its bracket, and each of 26 octets from there on, or of as many as there are (own)
abbrev pub reading_steps : ℕ → Item → ℕ
reading_steps left (Char number) = if is_bracket number then 2 else 1
reading_steps left (Tag body) = 2 + min 26 (left - 1)

-- the looks by which an item comes into force: at the font of a number; a character needs none (own)
abbrev pub passing_looks : Meaning → ℕ
passing_looks (Shows number) = 0
passing_looks means = looks means

-- the steps of passing an item: it is read, and comes into force (own)
abbrev pub passing_steps : ℕ → Item → ℕ
passing_steps left item = reading_steps left item + passing_looks (meaning item)

-- the steps of passing those of some items that stand on a page, which is counted from 0; with these items a string of this many octets
-- begins. An `np` stands on the page that it ends (own)
abbrev pub items_on : ℕ → ℕ → List Item → ℕ
items_on n page items =
    sum_by (λ k. k)
    (each_after (λ before item. if pages_of (map meaning before) == page + 1 then passing_steps (n - length (spell before)) item else 0)
    items)

-- the steps of passing a page of an accepted string: its items, and the end of the string after the last page (own)
unfoldable pub page_steps : List ℕ → ℕ → ℕ
page_steps octets page =
    items_on (length octets) page (reading octets).items + (if pages_of (meanings octets) == page + 1 then 1 else 0)

-- the steps of passing so many pages from the first on (own)
abbrev pub pages_steps : List ℕ → ℕ → ℕ
pages_steps octets zero = 0
pages_steps octets (suc pages) = pages_steps octets pages + page_steps octets pages

-- the page in whose on time or off time a time of the cycle is, counted from 0 (NTCIP 1203 v03, MULTI tag 'pt')
abbrev pub page_in_turn : List Times → ℕ → ℕ
page_in_turn [] time = 0
page_in_turn (page ∷ pages) time =
    if nat_lt time (page.on + page.off) then 0 else suc (page_in_turn pages (time - (page.on + page.off)))

-- the pages that are passed to find the one in whose times a clock is: up to that one, with it; none where page 0 is always shown, of one
-- page or of a cycle of 0 (own)
abbrev pub pages_to_find : List Times → ℕ → ℕ
pages_to_find pages clock = if (length pages == 1) || (cycle pages == 0) then 0 else page_in_turn pages (clock % cycle pages) + 1

-- the steps of finding what a string shows at a clock (own)
unfoldable pub finding_steps : SignData → List ℕ → ℕ → ℕ
finding_steps sign octets clock = pages_steps octets (pages_to_find (page_times sign (meanings octets)) clock)

-- the steps of finding when that changes: the same, but page 0 is passed where it is always shown (own)
unfoldable pub change_steps : SignData → List ℕ → ℕ → ℕ
change_steps sign octets clock =
    let pages = page_times sign (meanings octets) in
    if (length pages == 1) || (cycle pages == 0) then page_steps octets 0 else finding_steps sign octets clock
