use Rattle.std.proofs.Common.{◌≡◌, ◌+◌, ◌++◌, ◌∷◌, ◌∙◌, [], None, cond, get_or, take, sym, ap}
use Rattle.std.proofs.lemmas.List.{take_more}
use Rattle.message_words.specs.OnLines.{ended_texts, text_after}
use Rattle.message_words.specs.declared.lines.LineText.{LineText}
use Rattle.message_words.specs.declared.said.Said.{Said}
use Rattle.message_words.proofs.OnLinesLemmas
use Rattle.message_words.proofs.lines.line_texts.Goals.{then-ends_line+in_ok-push, else-ends_line}
use Rattle.message_words.proofs.lines.line_texts.Goals as goal

pub loop-one-preserved : goal.loop-one-preserved
loop-one-preserved c =
    let h = c.loop-one.invariant in
    let defaults = c.args.defaults in
    let said = c.args.said.now in
    let i = c.loop-one.one-index in
    let none : Said = record { at = 0; end = 0; tag = None } in
    let one = get_or said i none in
    let below = c.loop-one-test.true in
    let before = take i said in
    let old = ended_texts defaults before in
    let more = OnLinesLemmas.ended_more defaults said i none below in
    let here : c.with_item-here.result ≡ text_after defaults (take (i + 1) said) = c.with_item-here.ensures before h.here_is ∙ ap (text_after defaults) (sym (take_more said i none below)) in
    elim c.if-ends_line.branch [
      | then-ends_line+in_ok-push w ↦ rw w.lines-is (record {
        ended = w.in_ok-push.ensures.items ∙ ap (λ l. l ++ c.loop-one.here ∷ []) h.ended ∙ ap (λ (t : LineText). old ++ t ∷ []) h.here_is
            ∙ ap (λ b. cond b (old ++ text_after defaults before ∷ []) old) (sym (sym c.ends_line.ensures ∙ w.if-ends_line.true)) ∙ sym more;
        here_is = here;
      })
      | else-ends_line w ↦ rw w.lines-is (record {
        ended = h.ended ∙ ap (λ b. cond b (old ++ text_after defaults before ∷ []) old) (sym (sym c.ends_line.ensures ∙ w.if-ends_line.false)) ∙ sym more;
        here_is = here;
      })
    ]
