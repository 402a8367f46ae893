use Rattle.multi_judge.proofs.Lemmas.{character_of, Some, ◌+◌, ◌≡◌, ◌<◌, [], rules, nat_tests, option_map_or, unwrap_or, average, ◌≤◌, ◌||◌, max, ap, ◌∙◌, refl, arith, nat_lt, line_number, segment_sum, kept_width, in_order, segment_own, line_with, no_character, turned, counted}
use Rattle.multi_judge.proofs.line.Line.add.Goals as goal

pub returns-then-not-self-clause-sum : goal.returns-then-not-self-clause-sum
returns-then-not-self-clause-sum c line s glyphs is e none =
    let empty = no_character line c.args.self.now glyphs e c.if-not-self.true in
    rw (empty, e) (search rules)

pub returns-clause-sum : goal.returns-clause-sum
returns-clause-sum c line s glyphs is e none =
    let old = c.args.self.now in
    let now = c.if-just-self.self in
    let new = character_of c.args.here.now c.args.cell_width in
    let is_just = c.number-just.ensures.number in
    let just = line_number new.just in
    let order : old.present ≤ just = let o = in_order line s old e none in omega (arith, o, ap line_number is.just) in
    let (same, later, present, parts, height, spacing, any) : (just ≡ old.present → now ≡ old) × (old.present < just → (now.left ≡ kept_width 2 old) × (now.centre ≡ kept_width 3 old) × (now.right ≡ kept_width 4 old) × (now.part ≡ segment_sum 0 []))
    × (now.present ≡ just) × (now.has_parts ≡ old.has_parts) × (now.height ≡ old.height) × (now.spacing ≡ old.spacing) × (now.any ≡ old.any) = elim c.if-just-self.branch [
      | goal.then-just-self+in-2 w ↦ rw w.self-is (λ own. absurd (omega (arith, own, w.if-just-self.true, is_just)), λ later. (rw w.in-2.is refl, rw w.in-2.is refl, rw w.in-2.is refl, search rules), is_just, refl, refl, refl, refl)
      | goal.then-just-self+in-3 w ↦ rw w.self-is (λ own. absurd (omega (arith, own, w.if-just-self.true, is_just)), λ later. (rw w.in-3.is refl, rw w.in-3.is refl, rw w.in-3.is refl, search rules), is_just, refl, refl, refl, refl)
      | goal.then-just-self+in-4 w ↦ rw w.self-is (λ own. absurd (omega (arith, own, w.if-just-self.true, is_just)), λ later. (rw w.in-4.is refl, rw w.in-4.is refl, rw w.in-4.is refl, search rules), is_just, refl, refl, refl, refl)
      | goal.then-just-self+in_default w ↦ rw w.self-is (λ own. absurd (omega (arith, own, w.if-just-self.true, is_just)), λ later. (grind (arith, nat_tests, w.in_default), grind (arith, nat_tests, w.in_default), grind (arith, nat_tests, w.in_default), search rules), is_just, refl, refl, refl, refl)
      | goal.else-just-self w ↦ rw w.self-is (λ own. refl, λ later. absurd (omega (arith, later, w.if-just-self.false, is_just)), omega (arith, order, w.if-just-self.false, is_just), refl, refl, refl, refl)
    ] in
    let (left, centre, right, part) = turned line old e just order now same later in
    let gap : c.match-self.gap ≡ option_map_or (λ earlier. unwrap_or new.spacing (average earlier new.font.char_spacing)) now.part.last 0 = elim c.match-self.branch [
      | goal.in-Some w ↦ rw w.in-Some.is (w.gap-is ∙ w.gap_or_average-gap.ensures)
      | goal.in-None w ↦ rw w.in-None.is w.gap-is
    ] in
    line_with line s new glyphs is old e order _ present left centre right ((λ i. record { width = c.saturating_add-self.ensures i; count = counted (now.part.count + 1); last = Some new.font.char_spacing })
    ∙ segment_own just line s new is refl now.part c.from.result c.from-2.result part (c.from.ensures ∙ gap) c.from-2.ensures)
    (λ i. parts i || nat_lt (is_just i) 5) (c.max-self.ensures ∙ ap (λ n. max n new.font.height) height) (c.max-self-2.ensures ∙ ap (λ n. max n new.font.line_spacing) spacing) (any ∙ c.if-not-self.false)
