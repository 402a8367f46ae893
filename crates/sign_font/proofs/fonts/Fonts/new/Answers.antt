use Rattle.std.proofs.Common.{arith, ◌≡◌, ◌<◌, length, get_or, refl, ◌∙◌}
use Rattle.std.proofs.lemmas.List.{length-set}
use Rattle.sign_font.specs.Sign.{FontData}
use Rattle.sign_font.proofs.PlaceLemmas.{places_none, places_more, places_all}
use Rattle.sign_font.proofs.fonts.Fonts.new.Goals as goal

pub loop-place-init : goal.loop-place-init
loop-place-init c = record {
  size = refl;
  placed = places_none (λ (font : FontData). font.number) c.args.fonts.items c.requires.count;
}

pub loop-place-preserved : goal.loop-place-preserved
loop-place-preserved c =
    let at = c.loop-place in
    let fonts = c.args.fonts.items in
    let font = c.font-item.result in
    let within : at.place < length fonts = omega arith in
    let is : font ≡ get_or fonts at.place font = c.font-item.is ∙ rw c.deref-font-items.ensures.value refl in
    let inside : font.number < length at.places = omega (arith, at.invariant.size) in
    rw (c.from.ensures, c.number.ensures) record {
      size = length-set at.places font.number at.place ∙ at.invariant.size;
      placed = places_more (λ (font : FontData). font.number) fonts at.place font at.places c.requires.rising within is inside at.invariant.placed;
    }

pub invariant_of-result : goal.invariant_of-result
invariant_of-result c = places_all (λ (font : FontData). font.number) c.args.fonts.items c.loop-place.place c.loop-place.places (omega arith) c.loop-place.invariant.placed
