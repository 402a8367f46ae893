use Rattle.std.proofs.Common.{◌≡◌, ◌<◌, ◌≤◌, length, get_or, ◌+◌, ◌-◌, ◌*◌, ◌/◌, ◌^◌, arith, sym, ◌∙◌}
use Rattle.sign_font.specs.Cell.{SizedCell}
use Rattle.sign_font.proofs.HalfLemmas.{halved, none_between, small_below, large_above, found_here}
use Rattle.sign_font.proofs.glyphs.Glyphs.search.Goals as goal
use Rattle.sign_font.proofs.glyphs.Glyphs.search.Goals.{then-here-number-2, else-here-number-2}

pub returns-then-low-high : goal.returns-then-low-high
returns-then-low-high c =
    let at = c.loop-probe in
    sym (none_between (λ (cell : SizedCell). cell.number) c.args.self.now c.args.number at.low at.high c.if-low-high.true at.invariant.below at.invariant.above)

pub returns-then-here-number : goal.returns-then-here-number
returns-then-here-number c =
    let at = c.loop-probe in
    let cells = c.self.inside.glyphs.items in
    let glyph = c.index-glyph.result.now in
    let left : at.low < at.high = omega (arith, c.if-low-high.false) in
    let inside : at.high ≤ length cells = rw (← c.self.view_is) at at.invariant.within in
    let within : at.low + (at.high - at.low) / 2 < length cells = omega (arith, left, inside) in
    let named : glyph.number ≡ c.args.number = sym c.number-here.ensures ∙ c.if-here-number.true in
    rw (← c.self.view_is) (sym (found_here (λ (cell : SizedCell). cell.number) cells c.self.invariant.numbered.rising (at.low + (at.high - at.low) / 2) glyph within c.index-glyph.ensures c.args.number named))

pub loop-probe-preserved : goal.loop-probe-preserved
loop-probe-preserved c =
    let at = c.loop-probe in
    let inv = at.invariant in
    let middle = at.low + (at.high - at.low) / 2 in
    let number_of = λ (cell : SizedCell). cell.number in
    let cells = c.args.self.now in
    let glyph = c.index-glyph.result.now in
    let left : at.low < at.high = omega (arith, c.if-low-high.false) in
    let before : middle < at.high = omega (arith, left) in
    let within : middle < length cells = omega (arith, before, inv.within) in
    let is : glyph ≡ get_or cells middle glyph = rw (c.self.view_is) at c.index-glyph.ensures in
    let rising = rw (c.self.view_is) at c.self.invariant.numbered.rising in
    elim c.if-here-number-2.branch [
      | then-here-number-2 w ↦
          let half : 2 * (c.if-here-number-2.high - c.if-here-number-2.low) ≤ at.high - at.low = omega (arith, w.low-is, w.high-is, left) in
          let small : glyph.number < c.args.number = omega (arith, c.number-here.ensures, w.if-here-number-2.true) in
          record {
            ordered = omega (arith, w.low-is, w.high-is, before);
            within = omega (arith, w.high-is, inv.within);
            few = halved (at.high - at.low) (c.if-here-number-2.high - c.if-here-number-2.low) at._probe half inv.few;
            below = λ k d h. small_below number_of cells rising middle glyph within is c.args.number small k d (omega (arith, h, w.low-is));
            above = λ k d h inside. inv.above k d (omega (arith, h, w.high-is)) inside;
          }
      | else-here-number-2 w ↦
          let half : 2 * (c.if-here-number-2.high - c.if-here-number-2.low) ≤ at.high - at.low = omega (arith, w.low-is, w.high-is, left) in
          let large : c.args.number < glyph.number = grind (arith, c.number-here.ensures, c.if-here-number.false, w.if-here-number-2.false) in
          record {
            ordered = omega (arith, w.low-is, w.high-is);
            within = omega (arith, w.high-is, before, inv.within);
            few = halved (at.high - at.low) (c.if-here-number-2.high - c.if-here-number-2.low) at._probe half inv.few;
            below = λ k d h. inv.below k d (omega (arith, h, w.low-is));
            above = λ k d h inside. large_above number_of cells rising middle glyph within is c.args.number large k d (omega (arith, h, w.high-is)) inside;
          }
    ]

pub returns : goal.returns
returns c =
    let at = c.loop-probe in
    let last : at._probe ≡ 8 = omega (arith, c.loop-probe-test.false) in
    let few : (at.high - at.low) * 2 ^ 8 ≤ 255 = rw last at at.invariant.few in
    let met : at.high ≤ at.low = omega (arith, few) in
    sym (none_between (λ (cell : SizedCell). cell.number) c.args.self.now c.args.number at.low at.high met at.invariant.below at.invariant.above)
