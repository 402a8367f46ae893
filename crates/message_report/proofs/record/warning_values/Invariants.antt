use Rattle.std.proofs.Common.{◌≡◌, map, take}
use Rattle.serde_json.specs.View.{view}
use Rattle.message_report.specs.Records.{warning_records}
use Rattle.message_report.proofs.record.warning_values.Given as goal

abbrev pub invariant-loop-warning : goal.invariant-loop-warning
invariant-loop-warning l = map view l.list.items ≡ warning_records (take l.warning-index l.warnings)
