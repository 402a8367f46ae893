use Rattle.std.proofs.Common.{codes, refl}
use Rattle.message_report.proofs.ExplanationLemmas.{feedless}
use Rattle.message_report.proofs.text.push_times.Goals as goal

pub returns : goal.returns
returns c = (codes "shown all the time:", feedless (codes "shown all the time:") refl, c.in_ok-push_octets.ensures)
