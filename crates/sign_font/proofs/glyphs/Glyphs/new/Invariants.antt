use Rattle.std.proofs.Common.{◌≡◌, length}
use Rattle.sign_font.specs.Cell.{SizedCell}
use Rattle.sign_font.proofs.PlaceLemmas.{ArePlacesBelow, AreWidthsAt}
use Rattle.sign_font.proofs.glyphs.Glyphs.new.Given as goal

abbrev pub invariant-loop-place : goal.invariant-loop-place
invariant-loop-place l = record {
  size : (length l.places ≡ 256) × (length l.widths ≡ 256);
  placed : ArePlacesBelow (λ (cell : SizedCell). cell.number) l.fn.glyphs.items l.place l.places;
  wide : AreWidthsAt l.fn.glyphs.items l.places l.widths;
}
