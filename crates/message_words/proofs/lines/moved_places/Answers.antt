use Rattle.std.proofs.Common.{◌++◌, ◌∙◌, [], None, false, take, sym, ap}
use Rattle.std.specs.List.{cons_option, filter_map}
use Rattle.message_words.specs.OnLines.{moved_by}
use Rattle.message_words.proofs.OnLinesLemmas
use Rattle.message_words.proofs.OnLinesLemmas.{text}
use Rattle.message_words.proofs.lines.moved_places.Goals as goal

pub loop-line-preserved : goal.loop-line-preserved
loop-line-preserved c =
    let lines = c.args.lines.now in
    let i = c.loop-line.line-index in
    c.in_ok-add_some.ensures ∙ ap (λ l. l ++ cons_option c.moved_by.result []) c.loop-line.invariant ∙ ap (λ o. filter_map (moved_by c.args.at_end) (take i lines) ++ cons_option o []) c.moved_by.ensures
    ∙ sym (OnLinesLemmas.places_more (moved_by c.args.at_end) lines i (text None None false false 0) c.loop-line-test.true)
