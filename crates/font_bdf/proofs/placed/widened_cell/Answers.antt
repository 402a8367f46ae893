use Rattle.std.proofs.Common.{ap, ◌∙◌, rules}
use mir.Syntax.{w64}
use mir.Val.{SFits}
use Rattle.std.proofs.lemmas.Int.{to_z-of_z}
use Rattle.font_bdf.specs.declared.rows.FontBox.{FontBox}
use Rattle.font_bdf.specs.Bitmap.{drawing_of}
use Rattle.font_bdf.specs.Placed.{wide_of}
use Rattle.font_bdf.proofs.PlacedLemmas.{widened_none}
use Rattle.font_bdf.proofs.placed.widened_cell.Goals as goal

pub returns-in-Err : goal.returns-in-Err
returns-in-Err c =
    let rows = ap (λ (font : FontBox). font.height) c.widened-wider.ensures.font in
    let drawing = drawing_of c.args.bitmap.now in
    let columns = c.wide_of.ensures.wide ∙ ap (wide_of drawing) (to_z-of_z w64 c.args.wide c.ranges.wide) in
    let fits : SFits w64 c.wide_of.result = search rules in
    record {
      cells = λ differs. widened_none drawing (drawing_of c.widened-wider.result) c.args.number c.args.wide _ c.args.bitmap.now.font.height c.widened-wider.result.font.height c.widened-wider.ensures.drawing (to_z-of_z w64 c.wide_of.result fits ∙ columns) rows (c.in-Err.ensures.width differs);
    }
