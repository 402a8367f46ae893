use Rattle.std.proofs.Common.{◌≡◌, ◌+◌, length, take}
use Rattle.std.specs.List.{All}
use Rattle.saved_octets.specs.Field.{placed}
use Rattle.saved_octets.specs.Slots.{IsRanged}
use Rattle.saved_octets.proofs.TableLemmas.{table_front}
use Rattle.saved_octets.proofs.table.put_table.Given as goal

abbrev pub invariant-loop-index : goal.invariant-loop-index
invariant-loop-index l = record {
  put : l.buffer ≡ placed l.fn.buffer l.at (table_front l.store.slots l.index);
  ranged : All IsRanged (take l.index l.store.slots);
  ends : l.end ≡ l.at + length (table_front l.store.slots l.index);
}
