use Rattle.font_bdf.specs.Bitmap.{drawing_of, is_fine_row, is_within}
use Rattle.font_bdf.proofs.BitmapLemmas.{all_more, all_stops}
use Rattle.font_bdf.proofs.bitmap.Bitmap.outside.Goals as goal

pub returns-in-Some : goal.returns-in-Some
unfolding is_within
returns-in-Some c =
    all_stops (is_fine_row (drawing_of c.args.self.now) c.args.width c.args.height) c.args.self.now.count c.loop-row.row c.loop-row-test.true c.in-Some.ensures

pub loop-row-preserved : goal.loop-row-preserved
loop-row-preserved c =
    all_more (is_fine_row (drawing_of c.args.self.now) c.args.width c.args.height) c.loop-row.row c.loop-row.invariant c.in-None.ensures
