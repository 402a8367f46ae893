-- What is known of limits and permanent messages that a store can be made with.
use Rattle.std.proofs.Common.{◌≡◌, List, rules, tests, true}
use Rattle.std.specs.List.{list_all}
use Rattle.std.proofs.lemmas.List.Sums.{AllPass-from_list_all}
use Rattle.message_store.specs.declared.limits.StoreLimits.{StoreLimits}
use Rattle.message_store.specs.Limits.{AreLimits, ArePermanent, IsPermanent, can_be_made, is_permanent}
use Rattle.message_store.specs.Slot.{PermanentData}

pub sound-limits : (limits : StoreLimits) (permanent : List PermanentData) → can_be_made limits permanent ≡ true → AreLimits limits
sound-limits limits permanent can = record {
  slots = (search (rules, tests), search (rules, tests));
  bytes = search (rules, tests);
  longest = (search (rules, tests), search (rules, tests));
}

sound-message : (limits : StoreLimits) (message : PermanentData) → is_permanent limits message ≡ true → IsPermanent limits message
sound-message limits message is = record {
  multi = search (rules, tests);
  priority = search (rules, tests);
  beacon = search (rules, tests);
  pixel = search (rules, tests);
}

each-passes : (limits : StoreLimits) (permanent : List PermanentData) → can_be_made limits permanent ≡ true → list_all (is_permanent limits) permanent ≡ true
each-passes limits permanent can = search (rules, tests)

pub sound-permanent : (limits : StoreLimits) (permanent : List PermanentData) → can_be_made limits permanent ≡ true → ArePermanent limits permanent
sound-permanent limits permanent can = record {
  few = search (rules, tests);
  each = λ k d below. sound-message limits _ (AllPass-from_list_all (is_permanent limits) permanent (each-passes limits permanent can) k d below);
}
