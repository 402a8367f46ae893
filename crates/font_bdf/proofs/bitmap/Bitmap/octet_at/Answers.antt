use Rattle.std.proofs.Common.{◌≡◌, ◌+◌, ap, ◌∙◌, arith}
use Rattle.font_bdf.specs.Bitmap.{bits_value, drawing_of, is_lit_at}
use Rattle.font_bdf.proofs.BitmapLemmas.{octet_more, octet_small}
use Rattle.font_bdf.proofs.bitmap.Bitmap.octet_at.Goals as goal

pub returns : goal.returns
returns c =
    let lit = is_lit_at (drawing_of c.args.self.now) c.args.width c.args.height in
    record { octet = c.loop-place.invariant.value ∙ ap (bits_value lit c.args.first) (let e : c.loop-place.place ≡ 8 = omega (arith, c.loop-place-test.false, c.loop-place.auto.place-end) in e) }

pub loop-place-preserved : goal.loop-place-preserved
loop-place-preserved c =
    let lit = is_lit_at (drawing_of c.args.self.now) c.args.width c.args.height in
    let bit = c.bit_at.result in
    let place = c.loop-place.place in
    record {
      value = octet_more lit c.args.first place c.loop-place.octet bit c.loop-place.invariant.value c.bit_at.ensures.bit;
      small = octet_small place c.loop-place.octet bit (lit (c.args.first + place)) c.loop-place.invariant.small c.bit_at.ensures.bit;
    }
