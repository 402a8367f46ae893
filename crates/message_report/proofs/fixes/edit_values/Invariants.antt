use Rattle.std.proofs.Common.{◌≡◌, map, take}
use Rattle.serde_json.specs.View.{view}
use Rattle.message_cures.specs.declared.difference.Edit.{Edit}
use Rattle.message_report.specs.Fixes.{edit_record}
use Rattle.message_report.proofs.fixes.edit_values.Given as goal

abbrev pub invariant-loop-edit : goal.invariant-loop-edit
invariant-loop-edit l = map view l.list.items ≡ map (λ (e : Edit). edit_record e) (take l.edit-index l.edits)
