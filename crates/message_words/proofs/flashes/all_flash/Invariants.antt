use Rattle.std.proofs.Common.{◌≡◌, ◌==◌, length, not, take}
use Rattle.std.specs.List.{list_any}
use Rattle.message_words.specs.OnItems.{is_letter}
use Rattle.message_words.specs.OnPages.{is_flashing, still_letters}
use Rattle.message_words.specs.declared.said.Said.{Said}
use Rattle.message_words.proofs.flashes.all_flash.Given as goal

abbrev pub invariant-loop-one : goal.invariant-loop-one
invariant-loop-one l = record {
  letters : l.has_letters ≡ list_any (λ (s : Said). is_letter s.tag) (take l.one-index l.said);
  still : not l.has_still ≡ (length (still_letters l.defaults (take l.one-index l.said)) == 0);
  flashing : l.is_flashing ≡ is_flashing l.defaults (take l.one-index l.said);
}
