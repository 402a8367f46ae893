use Rattle.std.proofs.Common.{◌≡◌, ◌++◌, take}
use Rattle.std.specs.List.{flat_map}
use Rattle.message_report.specs.Pieces.{piece_text}
use Rattle.message_report.proofs.explanation.push_all.Given as goal

abbrev pub invariant-loop-piece : goal.invariant-loop-piece
invariant-loop-piece l = l.text ≡ l.fn.text ++ flat_map piece_text (take l.piece-index l.pieces)
