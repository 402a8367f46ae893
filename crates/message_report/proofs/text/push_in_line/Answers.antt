use Rattle.message_report.proofs.ExplanationLemmas
use Rattle.message_report.proofs.text.push_in_line.Goals as goal

pub loop-octet-preserved : goal.loop-octet-preserved
loop-octet-preserved c =
    let (line, is, so_far) = c.loop-octet.invariant in
    ExplanationLemmas.line_more _ _ _ line _ is so_far c.in_ok-push_octet.ensures c.in_line.ensures
