use Rattle.std.proofs.Common.{◌∙◌, arith, length-set}
use Rattle.message_report.proofs.MarkLemmas
use Rattle.message_report.proofs.marks.write_marks.Goals as goal

pub loop-place-preserved : goal.loop-place-preserved
loop-place-preserved c =
    let l = c.loop-place in
    record {
      size = length-set l.line l.place c.mark.result ∙ l.invariant.size;
      written = MarkLemmas.mark_written l.line c.args.colours.now l.place c.mark.result (omega (arith, l.invariant.size, c.requires.room)) (omega arith) c.mark.ensures l.invariant.written;
      behind = MarkLemmas.mark_behind l.line c.args.line.now l.place c.mark.result l.invariant.behind;
    }
