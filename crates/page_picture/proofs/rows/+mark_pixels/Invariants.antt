use Rattle.std.proofs.Common.{length}
use Rattle.page_picture.proofs.rows.+mark_pixels.Given as goal

abbrev pub decreases-mark_pixels : goal.decreases-mark_pixels
decreases-mark_pixels l = length l.octets.now
