use Rattle.std.proofs.Common.{◌≡◌, ◌-◌, ◌≤◌, ◌++◌, drop, length}
use Rattle.multi_token.specs.Reading.{reading}
use Rattle.message_words.specs.Said.{said_from}
use Rattle.message_words.proofs.said.said_items.Given as goal

abbrev pub invariant-loop-item : goal.invariant-loop-item
invariant-loop-item l = record {
  source : l.source.octets ≡ l.message;
  within : l.at ≤ length l.message;
  so_far : said_from 0 (reading l.message).items ≡ l.all.items ++ said_from l.at (reading (drop l.at l.message)).items;
}

abbrev pub decreases-loop-item : goal.decreases-loop-item
decreases-loop-item l = length l.message - l.at
