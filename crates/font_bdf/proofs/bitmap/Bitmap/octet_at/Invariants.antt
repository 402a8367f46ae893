use Rattle.std.proofs.Common.{◌≡◌, ◌<◌, ◌^◌}
use Rattle.font_bdf.specs.Bitmap.{bits_value, drawing_of, is_lit_at}
use Rattle.font_bdf.proofs.bitmap.Bitmap.octet_at.Given as goal

abbrev pub invariant-loop-place : goal.invariant-loop-place
invariant-loop-place l = record {
  value : l.octet ≡ bits_value (is_lit_at (drawing_of l.self) l.width l.height) l.first l.place;
  small : l.octet < 2 ^ l.place;
}
