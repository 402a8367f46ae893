use Rattle.std.proofs.Common.{rules, tests}
use Rattle.std.proofs.lemmas.Iterator.Search.{all_from_yields_List}
use Rattle.std.proofs.lemmas.Iterator.Splits.{YieldsList-from_slice_split}
use Rattle.sign_report.specs.Lines.{has_file_lines, may_stand}
use Rattle.sign_report.proofs.lines.has_file_lines.Goals as goal

pub returns : goal.returns
unfolding has_file_lines
returns c =
    all_from_yields_List may_stand _ _ c.all.result c.all.ensures.ran (YieldsList-from_slice_split _ _ c.args.octets.now c.split.ensures.rest c.split.ensures.done c.split.ensures.closure (λ x r q k. search (rules, tests))) (λ x b q k. search (rules, tests))
