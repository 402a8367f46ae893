use Rattle.std.proofs.Common.{arith, refl}
use Rattle.page_picture.proofs.RowLemmas.{marks_joined}
use Rattle.page_picture.proofs.rows.+mark_pixels.Goals as goal

pub returns-then-octets-ge16 : goal.returns-then-octets-ge16
returns-then-octets-ge16 _ c mark table =
    marks_joined mark 16 128 c.args.octets.now _ c.args.text.now _ _ refl (omega (arith, c.if-octets-ge16.true)) c.requires.room refl
    (c.mark_piece.ensures mark table) (c.mark_pixels.ensures mark table)
