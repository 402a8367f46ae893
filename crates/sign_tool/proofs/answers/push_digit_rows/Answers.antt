use Rattle.std.proofs.Common.{◌++◌, ◌∷◌, [], refl, sym, ap, ◌∙◌, append-nil, append_assoc}
use Rattle.octet_text.proofs.TextLemmas
use Rattle.sign_tool.proofs.DigitLemmas
use Rattle.sign_tool.proofs.answers.push_digit_rows.Goals as goal

pub loop-row-init : goal.loop-row-init
loop-row-init c =
    let old = c.args.text.now.begun in
    (sym (append-nil old) ∙ ap (λ l. old ++ l) (sym (DigitLemmas.rows_none c.from-width.result c.args.colours.now)), refl)

pub loop-row-preserved : goal.loop-row-preserved
loop-row-preserved c =
    let line = c.in_ok-push_octet.ensures.text ∙ ap (λ l. l ++ 10 ∷ []) c.in_ok-push_digits.ensures.text ∙ append_assoc c.loop-row.text.begun _ (10 ∷ []) in (
      TextLemmas.grown _ _ _ _ _ _ c.loop-row.invariant.0 line (DigitLemmas.rows_more c.from-width.result c.args.colours.now c.loop-row.row c.from.result c.from.ensures),
      c.in_ok-push_octet.ensures.whole ∙ c.in_ok-push_digits.ensures.whole ∙ c.loop-row.invariant.1,
    )
