use Rattle.std.proofs.Common.{◌≡◌, length}
use Rattle.sign_font.specs.Sign.{FontData}
use Rattle.sign_font.proofs.PlaceLemmas.{ArePlacesBelow}
use Rattle.sign_font.proofs.fonts.Fonts.new.Given as goal

abbrev pub invariant-loop-place : goal.invariant-loop-place
invariant-loop-place l = record {
  size : length l.places ≡ 256;
  placed : ArePlacesBelow (λ (font : FontData). font.number) l.fn.fonts.items l.place l.places;
}
