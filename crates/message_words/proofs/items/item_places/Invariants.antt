use Rattle.std.proofs.Common.{◌≡◌, take}
use Rattle.message_words.specs.OnItems.{item_places}
use Rattle.message_words.proofs.items.item_places.Given as goal

abbrev pub invariant-loop-one : goal.invariant-loop-one
invariant-loop-one l = l.places.items ≡ item_places l.sign l.pages l.code (take l.one-index l.said)
