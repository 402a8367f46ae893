use Rattle.std.proofs.Common.{ap, get_or}
use Rattle.page_picture.proofs.RowLemmas.{full_written}
use Rattle.page_picture.proofs.rows.mark_full.Goals as goal

pub returns : goal.returns
returns c mark table =
    full_written mark (get_or c.eight_marks.result 0 0) c.args.octets.now c.args.text.now c.fill.new.text c.requires.full c.requires.room
    (ap (λ l. get_or l 0 0) (c.eight_marks.ensures mark table)) c.fill.ensures
