use Rattle.std.proofs.Common.{◌∙◌, refl}
use Rattle.page_plane.proofs.PutLemmas.{block_one}
use Rattle.page_plane.proofs.plane.Plane.put_row.Goals as goal

pub returns-clause-pixels : goal.returns-clause-pixels
returns-clause-pixels c = λ column row.
    c.put_rows.ensures.pixels column row ∙ rw (block_one c.args.x c.args.y c.args.width c.args.bits column row) refl
