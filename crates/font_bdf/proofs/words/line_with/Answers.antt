use Rattle.std.proofs.Common.{ℕ, List, Bor, rules, tests, sym, ◌∙◌}
use Rattle.std.proofs.lemmas.Iterator.{YieldsList-from_slice}
use Rattle.std.proofs.lemmas.Iterator.Search.{position_from_yields_List}
use Rattle.font_bdf.specs.Lines.{begins}
use Rattle.font_bdf.proofs.WordLemmas.{position_texts}
use Rattle.font_bdf.proofs.words.line_with.Goals as goal

pub returns : goal.returns
returns c =
    let word = c.args.word.now in
    let lines = c.args.lines.now in
    position_from_yields_List (λ (line : Bor (List ℕ)). begins word line.now) _ _ c.position.result c.position.ensures.ran (YieldsList-from_slice lines cc) (λ x r q k. search (rules, tests)) ∙ sym (position_texts word lines)
