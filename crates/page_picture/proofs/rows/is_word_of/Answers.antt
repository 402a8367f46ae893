use Rattle.std.proofs.Common.{arith}
use Rattle.page_picture.proofs.RowLemmas.{same_word}
use Rattle.page_picture.proofs.rows.is_word_of.Goals as goal

pub returns : goal.returns
returns c =
    same_word c.args.octet c.args.octets.now c.in-Some.eight.now c.from_le_bytes.result c.from_le_bytes-2.result (omega (arith, c.ranges.octet.fits)) c.requires
    (λ i. omega (arith, c.type_inv.octets i)) c.in-Some.ensures.cases.0 c.from_le_bytes.ensures c.from_le_bytes-2.ensures
