use Rattle.std.proofs.Common.{◌≡◌, take}
use Rattle.std.specs.List.{filter_map}
use Rattle.message_words.specs.OnLines.{moved_by}
use Rattle.message_words.proofs.lines.moved_places.Given as goal

abbrev pub invariant-loop-line : goal.invariant-loop-line
invariant-loop-line l = l.places.items ≡ filter_map (moved_by l.at_end) (take l.line-index l.lines)
