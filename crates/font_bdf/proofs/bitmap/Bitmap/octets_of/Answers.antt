use Rattle.std.proofs.Common.{ℕ, ◌*◌}
use Rattle.font_bdf.specs.Bitmap.{bits_value, drawing_of, is_lit_at}
use Rattle.font_bdf.proofs.BitmapLemmas.{octets_more}
use Rattle.font_bdf.proofs.bitmap.Bitmap.octets_of.Goals as goal

pub loop-place-preserved : goal.loop-place-preserved
loop-place-preserved c =
    let lit = is_lit_at (drawing_of c.args.self.now) c.args.width c.args.height in
    octets_more (λ (place : ℕ). bits_value lit (8 * place) 8) c.loop-place.octets.items c.push.new.self.items c.loop-place.place c.octet_at.result c.in_ok-push.ensures.items c.loop-place.invariant c.octet_at.ensures.octet
