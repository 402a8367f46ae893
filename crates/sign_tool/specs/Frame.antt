-- The texts of frames, which show pages.
use Rattle.std.specs.Prelude.{ℕ, Bool, List, ◌++◌, codes, decimal}
use Rattle.sign_font.specs.Sign.{SignData}
use Rattle.multi_meaning.specs.declared.times.Shown.{Shown}
use Rattle.multi_meaning.specs.declared.times.Shown.TheVariants.{Page, Off}
use Rattle.multi_meaning.specs.Meaning.{meanings}
use Rattle.multi_meaning.specs.Picture.{pixel_at}
use Rattle.multi_meaning.specs.Times.{shown}
use Rattle.page_picture.specs.Rows.{marked_rows}
use Rattle.sign_tool.specs.Reply.{answer_to}

-- The pixel rows, from the top, of what a test of column and row says is lit: a pixel that is lit is `#`, octet 35, and another is `.`,
-- octet 46 (own).
abbrev pub frame_rows : (ℕ → ℕ → Bool) → ℕ → ℕ → List ℕ
frame_rows lit width height = marked_rows 35 lit width height

-- The first line of a frame has the page and its phase, or says that none is shown (own).
abbrev pub head_text : Shown → List ℕ
head_text (Page page phase) = codes "page " ++ decimal page ++ codes " phase " ++ decimal phase ++ codes "\n"
head_text Off = codes "off\n"

-- The frame of a colour for what is shown of a string, by the sign's own defaults (own).
abbrev pub frame_text : SignData → List ℕ → ℕ → Shown → List ℕ
frame_text sign line colour shown = head_text shown ++ frame_rows (pixel_at sign (meanings line) shown colour) sign.width sign.height

-- An accepted string is answered by its frame of this colour at this clock, in tenths of a second, and another as the
-- check does (own).
abbrev pub show_answer : SignData → ℕ → ℕ → List ℕ → List ℕ
show_answer sign colour clock line = answer_to (λ pages. frame_text sign line colour (shown sign line clock)) sign line

-- What lines are shown for: a sign, a colour, and a clock (own).
pub record ShowerData : Type 0 where
  pub sign : SignData
  pub colour : ℕ
  pub clock : ℕ
