use Rattle.std.proofs.Common.{ap, map, sym}
use Rattle.std.specs.List.{range_with_len}
use Rattle.page_picture.specs.Rows.{octet_of}
use Rattle.page_picture.specs.internal.Marks.{eight_marks}
use Rattle.page_picture.proofs.rows.table.Goals as goal

pub returns-in-Hash : goal.returns-in-Hash
returns-in-Hash c = ap (λ mark. map (eight_marks (octet_of mark)) (range_with_len 0 256)) (sym c.in-Hash.is)

pub returns-in-One : goal.returns-in-One
returns-in-One c = ap (λ mark. map (eight_marks (octet_of mark)) (range_with_len 0 256)) (sym c.in-One.is)
