use Rattle.std.proofs.Common.{◌≡◌, ◌-◌, ◌≤◌, length, map}
use Rattle.message_words.specs.PageTimes.{times_data}
use Rattle.message_words.proofs.PageTimesLemmas.{Passed}
use Rattle.message_words.proofs.times.page_times.Given as goal

abbrev pub invariant-loop-item : goal.invariant-loop-item
invariant-loop-item l = record {
  source : l.source.octets ≡ l.message;
  within : l.at ≤ length l.message;
  passed : Passed l.sign l.message l.at (map times_data l.ended.items) (times_data l.times);
}

abbrev pub decreases-loop-item : goal.decreases-loop-item
decreases-loop-item l = length l.message - l.at
