use Rattle.std.proofs.Common.{◌∙◌, ap, arith, slice_index, sym}
use Rattle.byteorder.specs.Endian.{big_number}
use Rattle.saved_octets.proofs.ReadLemmas.{unranged_again}
use Rattle.sign_control.specs.Saved.{defaults_in, remaining_in}
use Rattle.sign_control.proofs.SavedLemmas.{display_read, rest_is}
use Rattle.sign_control.proofs.parts.display_of.Goals as goal

pub returns-clause-display : goal.returns-clause-display
returns-clause-display c =
    let octets = c.args.octets.now in
    display_read octets c.in_ok-remaining.remaining c.in-Some.mode c.read_u16.result c.read_u16-2.result c.read_u32-2.result c.read_u64.result c.defaults_in.result
    (ap remaining_in (sym (c.read_u32.ensures ∙ ap (big_number 4) (rest_is octets 13))) ∙ c.in_ok-remaining.ensures.remaining) (sym c.in-Some.ensures)
    (unranged_again (slice_index octets 3) (slice_index octets 4) (slice_index octets 5) (omega (arith, c.if-octets-eq0.false)) (omega (arith, c.if-octets-gt1.false)) (omega (arith, c.if-octets-gt1-2.false)))
    (c.read_u16.ensures ∙ ap (big_number 2) (rest_is octets 1)) (c.read_u16-2.ensures ∙ ap (big_number 2) (rest_is octets 7)) (c.read_u32-2.ensures ∙ ap (big_number 4) (rest_is octets 9))
    (c.read_u64.ensures ∙ ap (big_number 8) (rest_is octets 17)) (c.defaults_in.ensures ∙ ap defaults_in (rest_is octets 25))
