use Rattle.std.proofs.Common.{arith, ◌≡◌, ◌<◌, ◌≤◌, length, get_or, refl, ◌∙◌}
use Rattle.std.proofs.lemmas.List.{length-set}
use Rattle.sign_font.specs.Cell.{SizedCell}
use Rattle.sign_font.proofs.PlaceLemmas.{places_none, places_more, places_past, places_all, widths_none, widths_more, widths_all}
use Rattle.sign_font.proofs.glyphs.Glyphs.new.Goals as goal
use Rattle.sign_font.proofs.glyphs.Glyphs.new.Goals.{then-number-lt256, else-number-lt256}

pub loop-place-init : goal.loop-place-init
loop-place-init c = record {
  size = (refl, refl);
  placed = places_none (λ (cell : SizedCell). cell.number) c.args.glyphs.items c.requires.count;
  wide = widths_none c.args.glyphs.items c.requires.count;
}

pub loop-place-preserved : goal.loop-place-preserved
loop-place-preserved c =
    let at = c.loop-place in
    let cells = c.args.glyphs.items in
    let cell = c.glyph-item.result in
    let number_of = λ (x : SizedCell). x.number in
    let within : at.place < length cells = omega arith in
    let is : cell ≡ get_or cells at.place cell = c.glyph-item.is ∙ rw c.deref-glyph-items.ensures.value refl in
    elim c.if-number-lt256.branch [
      | then-number-lt256 w ↦
          let octet : cell.number < 256 = omega (arith, c.from-number.ensures, c.number.ensures, w.if-number-lt256.true) in
          let inside : cell.number < length at.places = omega (arith, at.invariant.size.0) in
          let across : cell.number < length at.widths = omega (arith, at.invariant.size.1) in
          rw (w.places-is, w.widths-is, c.from-number.ensures, c.number.ensures, w.width.ensures) record {
            size = (length-set at.places cell.number at.place ∙ at.invariant.size.0, length-set at.widths cell.number cell.width ∙ at.invariant.size.1);
            placed = places_more number_of cells at.place cell at.places c.requires.rising within is inside at.invariant.placed;
            wide = widths_more cells at.place cell at.places at.widths within is inside across at.invariant.wide;
          }
      | else-number-lt256 w ↦
          let above : 256 ≤ cell.number = omega (arith, c.from-number.ensures, c.number.ensures, w.if-number-lt256.false) in
          rw (w.places-is, w.widths-is) record {
            size = at.invariant.size;
            placed = places_past number_of cells at.place cell at.places within is above at.invariant.placed;
            wide = at.invariant.wide;
          }
    ]

pub invariant_of-result : goal.invariant_of-result
invariant_of-result c =
    let at = c.loop-place in
    let placed = places_all (λ (cell : SizedCell). cell.number) c.args.glyphs.items at.place at.places (omega arith) at.invariant.placed in
    record {
      numbered = c.requires;
      placed = placed;
      wide = widths_all c.args.glyphs.items at.places at.widths placed at.invariant.wide;
    }
