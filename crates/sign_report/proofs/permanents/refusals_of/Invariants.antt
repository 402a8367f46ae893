use Rattle.std.proofs.Common.{◌≡◌, ◌≤◌, ◌+◌, ◌++◌, map, drop, length}
use Rattle.message_store.specs.Slot.{permanent_of}
use Rattle.sign_report.specs.Permanents.{refusals_from}
use Rattle.sign_report.proofs.permanents.refusals_of.Given as goal

abbrev pub invariant-loop-permanent : goal.invariant-loop-permanent
invariant-loop-permanent l = record {
  same : map permanent_of l.permanent-items ≡ l.store.permanent;
  few : length l.permanent-items ≤ 255;
  count : l.number ≡ l.permanent-index;
  so_far : l.refusals.items ++ refusals_from l.sign (l.number + 1) (map permanent_of (drop l.permanent-index l.permanent-items)) ≡ refusals_from l.sign 1 l.store.permanent;
}
