use Rattle.std.proofs.Common.{◌++◌, sym, ap, ◌∙◌, append-nil}
use Rattle.octet_text.proofs.TextLemmas
use Rattle.message_report.specs.Pictures.{mark_at}
use Rattle.page_picture.proofs.RowLemmas
use Rattle.message_report.proofs.marks.push_rows.Goals as goal

pub loop-row-init : goal.loop-row-init
loop-row-init c =
    let old = c.args.text.now in
    sym (append-nil old) ∙ ap (λ l. old ++ l) (sym (RowLemmas.rows_none (mark_at c.args.colours.now) c.args.colours.now.width))

pub loop-row-preserved : goal.loop-row-preserved
loop-row-preserved c =
    TextLemmas.grown _ _ _ _ _ _ c.loop-row.invariant c.in_ok-push_row.ensures (RowLemmas.rows_more (mark_at c.args.colours.now) c.args.colours.now.width c.loop-row.row)
