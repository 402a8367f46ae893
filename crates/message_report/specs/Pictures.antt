-- The picture of a page, in all its colours at once.
use Rattle.std.specs.Prelude.{ℕ, ◌+◌, ◌==◌, List, if◌then◌else◌}
use Rattle.sign_font.specs.Sign.{SignData}
use Rattle.page_picture.specs.Colours.{ColourData, colour_at, page_colour}
use Rattle.page_picture.specs.Rows.{rows_text}

-- the mark of a colour: its digit, octets 49 to 57, or a point, octet 46, for black (own)
abbrev pub mark : ℕ → ℕ
mark colour = if colour == 0 then 46 else 48 + colour

-- the mark of a pixel by the colours of a page (own)
abbrev pub mark_at : ColourData → ℕ → ℕ → ℕ
mark_at colours column row = mark (colour_at colours column row)

-- the picture of a page at a phase, in all its colours at once (own)
abbrev pub page_text : SignData → List ℕ → ℕ → ℕ → List ℕ
page_text sign octets page phase = rows_text (λ column row. mark (page_colour sign octets page phase column row)) sign.width sign.height
