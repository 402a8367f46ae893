use Rattle.std.proofs.Common.{ℕ, List, Bor, codes, rules, tests}
use Rattle.std.proofs.lemmas.Iterator.Consumers.{map_from_collect}
use Rattle.std.proofs.lemmas.Iterator.Splits.{YieldsList-from_slice_split}
use Rattle.std.proofs.lemmas.Result.{IfOk-weaker}
use Rattle.font_bdf.specs.Lines.{begins}
use Rattle.font_bdf.proofs.WordLemmas.{parts_texts}
use Rattle.font_bdf.proofs.read.parts_of.Goals as goal

pub returns : goal.returns
returns c =
    let word = codes "STARTCHAR" in
    let lines = c.args.lines.now in
    IfOk-weaker c.collect.result _ _ (λ found is. parts_texts word lines found.items is)
    (map_from_collect _ c.collect.ensures.ran (YieldsList-from_slice_split _ (λ (line : Bor (List ℕ)). begins word line.now) lines c.split.ensures.rest c.split.ensures.done c.split.ensures.closure (λ x r q k. search (rules, tests))))
