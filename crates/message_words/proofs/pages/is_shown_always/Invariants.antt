use Rattle.std.proofs.Common.{◌≡◌, map, take}
use Rattle.multi_meaning.specs.Times.{cycle}
use Rattle.message_words.specs.PageTimes.{times_data}
use Rattle.message_words.proofs.pages.is_shown_always.Given as goal

abbrev pub invariant-loop-one : goal.invariant-loop-one
invariant-loop-one l = cycle (map times_data (take l.one-index l.times)) ≡ 0
