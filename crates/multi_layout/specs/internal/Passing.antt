-- Passing a page of an accepted string, with nothing laid out (own).
use Rattle.std.specs.Prelude.{◌≡◌, ◌⊎◌, ℕ, ◌+◌, ◌-◌, ◌<◌, ◌≤◌, not, length, List, [], ◌∷◌, ◌++◌, map}
use Rattle.std.specs.List.{filter}
use Rattle.multi_token.specs.Spelling.{Item}
use Rattle.sign_font.specs.Sign.{SignData}
use Rattle.multi_meaning.specs.internal.Bounds.{BeginsPage, has_place}
use Rattle.multi_meaning.specs.Meaning.{Meaning, meaning, meanings}
use Rattle.multi_meaning.specs.Verdict.{pages_of}
use Rattle.multi_meaning.specs.Times.{Times, cycle, page_times}
use Rattle.multi_token.specs.Counted.{Counted, charged}
use Rattle.multi_token.specs.Tokens.{IsTokenOf, item_of}
use Rattle.multi_token.specs.declared.token.Token.{Token}
use Rattle.multi_layout.specs.declared.cursor.Cursor.{Cursor}
use Rattle.multi_layout.specs.declared.turn.Turn.{Turn}
use Rattle.multi_layout.specs.Finding.{reading_steps}
use Rattle.multi_layout.specs.internal.Cursors.{IsPlaced}
use Rattle.multi_judge.specs.internal.State.{IsStateOf}

-- without the characters and the `nl`, which alone are laid out (own)
abbrev pub unplaced : List Meaning → List Meaning
unplaced items = filter (λ x. not (has_place x)) items

-- the cursor stands between these items of an accepted string, and nothing was laid out (own)
pub record IsPassing (sign : SignData) (octets : List ℕ) (before behind : List Item) (cursor : Cursor) : Type 0 where
  pub placed : IsPlaced sign octets before behind cursor.at
  pub state_is : IsStateOf sign (unplaced (map meaning before)) cursor.state

-- the cursor stands before the first item of a string (own)
pub record IsAtStart (sign : SignData) (cursor : Cursor) : Type 0 where
  pub at : cursor.at ≡ 0
  pub state_is : IsStateOf sign [] cursor.state

-- a page begins at the cursor, and nothing was laid out (own)
pub record IsAtPage (sign : SignData) (octets : List ℕ) (cursor : Cursor) : Type 0 where
  pub before : List Item
  pub behind : List Item
  pub between : IsPassing sign octets before behind cursor
  pub begins : BeginsPage (map meaning before)

-- the page that begins at the old cursor is passed, and nothing was laid out: the new one stands after the `np` that ends it, or at the
-- end of the string. The page's times are those in force there, after those of earlier pages and before those of later ones (own)
pub record IsPageSkipped (sign : SignData) (octets : List ℕ) (old new : Cursor) : Type 0 where
  pub within : new.at ≤ length octets
  pub earlier : List Times
  pub later : List Times
  pub times : page_times sign (meanings octets) ≡
      earlier ++ record { on = new.state.attributes.on; off = new.state.attributes.off } ∷ later
  pub page_is : old.state.pages ≡ length earlier + 1
  pub begins : old.state.cycle ≡ cycle earlier
  pub ends :
      ((new.state.pages ≡ old.state.pages) × (later ≡ []) × (old.state.pages ≡ pages_of (meanings octets)))
      ⊎ ((new.state.pages ≡ old.state.pages + 1) × (old.at < new.at)
      × (new.state.cycle ≡ old.state.cycle + new.state.attributes.on + new.state.attributes.off) × IsAtPage sign octets new)

-- the item that stands at an offset, of which the first octet was read, is read to its end (own)
abbrev pub IsRestRead : Counted → ℕ → Counted → Type 0
IsRestRead source at new = (token : Token) × (token.at ≡ at) × IsTokenOf source.octets token
    × (new ≡ charged source (reading_steps (length source.octets - at) (item_of source.octets token) - 1))

-- a time of the cycle is one of the page that begins at the cursor, and these are that page's times (own)
pub record IsTurnAt (sign : SignData) (octets : List ℕ) (time : ℕ) (start : Cursor) (turn : Turn) : Type 0 where
  pub behind : Cursor
  pub skipped : IsPageSkipped sign octets start behind
  pub on : turn.on ≡ behind.state.attributes.on
  pub off : turn.off ≡ behind.state.attributes.off
  pub began : start.state.cycle ≤ time
  pub phase : turn.phase ≡ time - start.state.cycle
  pub until : turn.phase < turn.on + turn.off
