use Rattle.std.proofs.Common.{◌≡◌, ◌*◌, map}
use Rattle.std.specs.List.{range_with_len}
use Rattle.font_bdf.specs.Bitmap.{bits_value, drawing_of, is_lit_at}
use Rattle.font_bdf.proofs.bitmap.Bitmap.octets_of.Given as goal

abbrev pub invariant-loop-place : goal.invariant-loop-place
invariant-loop-place l = l.octets.items ≡ map (λ place. bits_value (is_lit_at (drawing_of l.self) l.width l.height) (8 * place) 8) (range_with_len 0 l.place)
