use Rattle.page_picture.proofs.RowLemmas.{dark_written}
use Rattle.page_picture.proofs.rows.mark_piece.Goals as goal

pub returns-then-are_all : goal.returns-then-are_all
returns-then-are_all c mark table =
    dark_written mark c.args.octets.now c.args.text.now _ (c.are_all.ensures c.if-are_all.true) c.requires.room c.fill.ensures
