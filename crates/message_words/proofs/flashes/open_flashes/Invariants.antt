use Rattle.std.proofs.Common.{◌≡◌, take}
use Rattle.message_words.specs.OnPages.{is_flashing, open_flashes}
use Rattle.message_words.proofs.flashes.open_flashes.Given as goal

abbrev pub invariant-loop-one : goal.invariant-loop-one
invariant-loop-one l = record {
  so_far : l.places.items ≡ open_flashes l.defaults (take l.one-index l.said);
  flashing : l.is_flashing ≡ is_flashing l.defaults (take l.one-index l.said);
}
