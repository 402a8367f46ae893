use Rattle.std.proofs.Common.{◌∷◌, map, take}
use Rattle.serde_json.specs.View.{view}
use Rattle.message_report.specs.Fixes.{AreFixesOf}
use Rattle.message_report.proofs.fixes.all_fixes.Given as goal

abbrev pub invariant-loop-other : goal.invariant-loop-other
invariant-loop-other l = AreFixesOf l.message (record { text = l.first; kind = l.fn.kind } ∷ take l.other-index l.other-items) (map view l.list.items)
