use Rattle.std.proofs.Common.{map, rules}
use Rattle.serde_json.specs.View.{view}
use Rattle.serde_json.specs.declared.value.Value.{the_lemmas}
use Rattle.message_report.proofs.fixes.fixes_value.Goals as goal

pub returns-in_ok-list-in-Mended : goal.returns-in_ok-list-in-Mended
returns-in_ok-list-in-Mended c = (map view c.in_ok-list-in-Mended.list.items, rw c.in-Mended.is c.in_ok-list-in-Mended.ensures, search (rules, the_lemmas))
