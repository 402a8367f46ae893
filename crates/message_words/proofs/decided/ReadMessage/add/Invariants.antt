use Rattle.std.proofs.Common.{◌≡◌, ◌++◌, map, take}
use Rattle.message_words.specs.Warned.{note_of, notes_of}
use Rattle.message_words.proofs.decided.ReadMessage.add.Given as goal

abbrev pub invariant-loop-at : goal.invariant-loop-at
invariant-loop-at l = notes_of l.found.items ≡ notes_of l.fn.found.items ++ map (note_of l.code) (take l.at-index l.places)
