use Rattle.std.proofs.Common.{codes, refl}
use Rattle.message_report.specs.Words.{GrowsInLine}
use Rattle.message_report.proofs.ExplanationLemmas.{feedless, in_line_more, line_joined}
use Rattle.message_report.proofs.text.push_shown_for.Goals as goal

pub returns : goal.returns
returns c =
    let first : GrowsInLine c.args.text.now c.push_octets.new.text = (codes "shown for ", feedless (codes "shown for ") refl, c.in_ok-push_octets.ensures) in
    let (seconds, one, second) = c.in_ok-push_seconds.ensures in
    let (dark, other, third) = c.in_ok-push_dark_for.ensures in
    let (line, is, so_far) = in_line_more _ _ _ dark (in_line_more _ _ _ seconds first one second) other third in
    line_joined _ _ _ line (codes ":") is (feedless (codes ":") refl) so_far c.in_ok-push_octets-2.ensures
