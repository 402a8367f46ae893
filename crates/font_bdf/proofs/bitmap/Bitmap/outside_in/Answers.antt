use Rattle.std.proofs.Common.{sym, ◌∙◌}
use Rattle.font_bdf.specs.Bitmap.{drawing_of, is_fine}
use Rattle.font_bdf.proofs.BitmapLemmas.{all_more, all_stops}
use Rattle.font_bdf.proofs.bitmap.Bitmap.outside_in.Goals as goal

pub returns-then-not-is_fine : goal.returns-then-not-is_fine
returns-then-not-is_fine c =
    all_stops (is_fine (drawing_of c.args.self.now) c.args.width c.args.height c.args.row) c.args.self.now.columns c.loop-column.column c.loop-column-test.true (sym c.is_fine.ensures ∙ c.if-not-is_fine.true)

pub loop-column-preserved : goal.loop-column-preserved
loop-column-preserved c =
    all_more (is_fine (drawing_of c.args.self.now) c.args.width c.args.height c.args.row) c.loop-column.column c.loop-column.invariant (sym c.is_fine.ensures ∙ c.if-not-is_fine.false)
