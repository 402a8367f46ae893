use Rattle.std.proofs.Common.{◌≡◌, ℕ, ◌<◌, length, slice_index}
use Rattle.sign_font.specs.Advance.{advance_of}
use Rattle.sign_font.specs.internal.Font.{width_among}
use Rattle.sign_font.proofs.glyphs.Glyphs.advances.Given as goal

abbrev pub invariant-loop-octet : goal.invariant-loop-octet
invariant-loop-octet l = record {
  size : length l.advances ≡ 256;
  each : (k : ℕ) → k < l.octet → slice_index l.advances k ≡ advance_of (width_among l.self) k;
}
