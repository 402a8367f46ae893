use Rattle.page_picture.proofs.rows.+write_lines.Given as goal

abbrev pub decreases-write_lines : goal.decreases-write_lines
decreases-write_lines g l = l.height
