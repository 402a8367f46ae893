use Rattle.multi_layout.proofs.Common.{Option, Place, None, ◌⊎◌, RisesBetween, IsFilledBy, DrawsNext, Full, inr, inl, ◌≡◌, ◌+◌, ◌<◌, ◌^◌, subst, IfSome, IsBeside, Back, standing, shown_colour, ◌==◌, ◌*◌, refl, ◌∷◌, map, Some, sym, ap, ◌∙◌, arith, unwrap_or, spelling_some, cell_in, Shows, Does, begins_area, has_place, meant_by, meant, looks_most}
use Rattle.multi_layout.proofs.AreaDrawLemmas.{run_ends, area_more, filled_longer, filled_none}
use Rattle.multi_layout.proofs.BesideLemmas.{has_cell, run_drawn}
use Rattle.multi_layout.proofs.DrawLemmas.{cell_height, cover_drawn, four_octets, no_page, quiet_put, rows_few, same_drawn}
use Rattle.multi_layout.proofs.PageDrawLemmas.{fill_steps}
use Rattle.multi_layout.proofs.PieceLemmas.{itself}
use Rattle.multi_layout.proofs.WalkLemmas.{item_fine, within_between, steps_of, steps_within, tag_passed}
use Rattle.multi_layout.proofs.draw.draw_item.Goals.{After-put_character-in-Char}
use Rattle.multi_layout.proofs.draw.draw_item.Goals as goal

pub unreachable-requires : goal.unreachable-requires
unreachable-requires c = let (page, n) = c.requires.known in has_cell n c.in-Char.is (rw (← c.sign.view_is) (sym c.cell.ensures.cell ∙ c.in_default.is))

pub overflow_add-place : goal.overflow_add-place
overflow_add-place c =
    let (page, n) = c.requires.known in
    let cursor = c.args.cursor.now in
    let b = n.up_to.between in
    let low : c.match-beside.place.column < 2 ^ 33 + 510 * cursor.at = elim c.match-beside.branch [
      | goal.in-Some-beside w ↦
          let stands = subst (λ o. IfSome o (IsBeside c.args.sign.now n.before (n.item ∷ n.rest) cursor)) w.in-Some-beside.is n.stands in rw w.place-is stands.low
      | goal.in-None w ↦ rw w.place-is (omega (arith, w.place_at-place.ensures.low.0))
    ] in
    let within = within_between c.args.sign.now c.args.source.now.octets n.before (n.item ∷ n.rest) cursor b in
    record { fits = omega (arith, low, within, b.placed.accepted.short, c.from.ensures, c.width-width.type_inv, c.from-in-Char.ensures, c.gap.type_inv) }

-- the character's cell
found : (c : After-put_character-in-Char) → cell_in c.args.sign.now c.args.cursor.now.state.attributes.font.number c.in-Char.number ≡ Some c.in-Some.cell
found c = rw (← c.sign.view_is) (sym c.cell.ensures.cell ∙ c.in-Some.is)

-- it is drawn, and the next stands beside it where the line isn't full
run : (c : After-put_character-in-Char) (beside : Option Place) → (beside ≡ None) ⊎ ((beside ≡ Some (record { column = c.match-beside.place.column + (c.from.result + c.from-in-Char.result); row = c.match-beside.place.row })) × (c.match-beside.state.attributes.line_just ≡ Full → ⊥))
    → DrawsNext c.args.sign.now c.args.source.now.octets c.args.layer c.args.read.now c.args.next c.args.beside beside c.args.cursor.now (record { at = c.args.cursor.now.at + c.args.next.len; state = c.match-beside.state }) c.args.plane.now c.put_character-in-Char.new.plane
run c beside so = λ page n. run_drawn n c.in-Char.is (found c) c.in-Some.ensures.size.0.1 (c.from-in-Char.ensures ∙ c.gap.ensures) (omega (arith, c.from-in-Char.ensures, c.gap.type_inv)) (ap (λ w. w + c.from-in-Char.result) (c.from.ensures ∙ c.width-width.ensures)) c.match-beside.place c.match-beside.state (elim c.match-beside.branch [
  | goal.in-Some-beside w ↦ inl (w.in-Some-beside.is ∙ ap Some (sym w.place-is), w.state-is ∙ w.lengthen.ensures)
  | goal.in-None w ↦ simp (w.state-is, w.place-is) (inr (record { width = c.width-width.result; wide = c.width-width.ensures; free = w.put_character.result; clash = w.put_character.ensures.conflicts; added = w.put_character.ensures.added }, w.group-lines.result.now, w.group-lines.ensures.lines, w.place_at-place.ensures.place, w.place_at-place.ensures.low.0))
]) c.put_character-in-Char.ensures.drawn beside so

-- this took at most eight steps over the string, and a row for each row of the cell
took : (c : After-put_character-in-Char) → RisesBetween c.args.source.now c.cell.new.source 0 8 × IsFilledBy c.args.sign.now c.args.plane.now c.put_character-in-Char.new.plane c.args.next.len
took c =
    let (page, n) = c.requires.known in (
      steps_within c.args.source.now (steps_of c.args.source.now c.cell.ensures.steps) (omega arith) (omega (arith, looks_most (Shows c.in-Char.number))),
      rows_few c.args.sign.now c.args.next.len (omega (arith, n.read_is.len, spelling_some n.item.item)) (cell_height c.args.sign.now (map meant n.before) c.args.cursor.now.state n.up_to.between.state_is c.in-Char.number c.in-Some.cell (found c)).1 c.put_character-in-Char.ensures.counted,
    )

pub returns-in-Full : goal.returns-in-Full
returns-in-Full c =
    let here = (goal.at.returns-in-Full c).After-put_character-in-Char in
    record { drawn = run here None (inl refl); at = refl; steps = (took here).0; fills = (took here).1 }

pub returns-in_default-line_just : goal.returns-in_default-line_just
returns-in_default-line_just c =
    let here = (goal.at.returns-in_default-line_just c).After-put_character-in-Char in
    record { drawn = rw c.from-in-Char-2.ensures (run here _ (inr (refl, c.in_default-line_just.not-Full))); at = refl; steps = (took here).0; fills = (took here).1 }

pub pass_tag-requires-clause-fine : goal.pass_tag-requires-clause-fine
pass_tag-requires-clause-fine c = let (page, n) = c.requires.known in (map meant n.before, n.up_to.between.state_is, item_fine n.up_to.between n.read_is)

pub returns-in-Back-clause-drawn : goal.returns-in-Back-clause-drawn
returns-in-Back-clause-drawn c = λ page n.
    let sign = c.args.sign.now in
    let given = c.in-Back.colour in
    let does : meant n.item ≡ Does (Back given) = n.read_is.meant ∙ ap meant_by c.in-Tag.is ∙ ap Does c.in-Back.is in
    let colour : c.unwrap_or-colour.result ≡ unwrap_or given sign.defaults.back = rw (← c.sign.view_is) c.unwrap_or-colour.ensures in
    run_ends (area_more n (Does (Back given)) does refl c.pass_tag.new.self c.fill.new.self (tag_passed n.up_to.between n.read_is c.pass_tag.new.self c.pass_tag.ensures.at c.pass_tag.ensures.passed) c.pass_tag.ensures.at
    (λ was. cover_drawn sign c.args.layer (map meant n.before) (map meant n.rest) given c.fill.new.self c.has.result (c.has.ensures.colour ∙ ap (λ k. shown_colour sign k == c.args.layer.colour) colour)
    (λ x y across down. c.fill.ensures.pixels x y (omega (arith, c.fill.ensures.width, across)) (omega (arith, c.fill.ensures.height, down)))))

pub returns-in-Back-clause-fills : goal.returns-in-Back-clause-fills
returns-in-Back-clause-fills c =
    let (page, n) = c.requires.known in
    let sign = c.args.sign.now in
    let does : meant n.item ≡ Does (Back c.in-Back.colour) = n.read_is.meant ∙ ap meant_by c.in-Tag.is ∙ ap Does c.in-Back.is in
    let four = four_octets n.item.item _ ((itself n.up_to.between (ap has_place does)).1 ∙ does) in
    let filled = fill_steps sign c.args.plane.now c.fill.new.self c.requires.size c.fill.ensures.steps in
    record {
      fills = 1;
      few = omega (arith, n.read_is.len, four);
      least = filled.0;
      most = omega (arith, filled);
      width = c.fill.ensures.width;
      height = c.fill.ensures.height;
    }

pub returns-in_default-tag : goal.returns-in_default-tag
returns-in_default-tag c =
    let sign = c.args.sign.now in
    let plane = c.args.plane.now in
    record {
      drawn = λ page n.
          let does : meant n.item ≡ Does c.in-Tag.tag = n.read_is.meant ∙ ap meant_by c.in-Tag.is in
          let plain = ap begins_area (sym does) ∙ n.plain in
          run_ends (area_more n (Does c.in-Tag.tag) does (no_page c.in-Tag.tag plain) c.pass_tag.new.self plane (tag_passed n.up_to.between n.read_is c.pass_tag.new.self c.pass_tag.ensures.at c.pass_tag.ensures.passed) c.pass_tag.ensures.at
          (same_drawn sign c.args.layer (map meant n.before) (map meant n.rest) (Does c.in-Tag.tag) plane (no_page c.in-Tag.tag plain)
          (quiet_put sign.defaults (standing sign (map meant n.before)) c.in-Tag.tag c.in_default-tag.not-Back plain)));
      steps = steps_within c.args.source.now c.pass_tag.ensures.steps (omega arith) (omega arith);
      at = c.pass_tag.ensures.at;
      fills = filled_longer sign plane plane _ _ (omega arith) (filled_none sign plane);
    }
