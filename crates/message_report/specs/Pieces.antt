-- The pieces of what is told.
use Rattle.std.specs.Prelude.{List, ℕ, decimal}
use Rattle.message_report.specs.declared.explanation.Piece.{Piece}
use Rattle.message_report.specs.declared.explanation.Piece.TheVariants.{Number, Octets}

-- what a piece is written as (own)
abbrev pub piece_text : Piece → List ℕ
piece_text (Octets octets) = octets.now
piece_text (Number number) = decimal number
