-- The page of a string that is drawn next.
use Rattle.std.specs.Prelude.{◌≡◌, ℕ, ◌+◌, ◌<◌, ◌≤◌, length}
use Rattle.multi_token.specs.Counted.{Counted}
use Rattle.multi_layout.specs.declared.checked.NextPage.{NextPage}
use Rattle.multi_layout.specs.CheckedData.{CheckedData}
use Rattle.multi_layout.specs.Pages.{page_count}
use Rattle.multi_layout.specs.internal.PageDrawing.{IsPageStart, IsReadTwice}

-- the page of this number is next to be drawn, if there is one (own)
abbrev pub IsNextPage : CheckedData → NextPage → ℕ → Type 0
IsNextPage string next page =
    page < page_count string → IsPageStart string.sign string.source.octets next.cursor × (next.cursor.state.pages ≡ page + 1)

-- the octets of a page alone were read to draw it, each at most twice for its lines and twice for its cells (own)
abbrev pub IsReadOn : Counted → Counted → NextPage → NextPage → Type 0
IsReadOn source source' old new = (old.cursor.at ≤ new.cursor.at) × (new.cursor.at ≤ length source.octets)
    × IsReadTwice source source' old.cursor new.cursor
