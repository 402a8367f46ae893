use Rattle.multi_judge.proofs.Lemmas.{◌≡◌, ◌≤◌, ◌<◌, ◌^◌, ◌-◌, line_is_there, look_up, line_number, arith, length, count_by, is_break, Option, option_map_or, rules, CountedLine, refl, ap, subst, ◌∙◌, page_number, Spot, area_of, group_of, lines_of, line_before, largest, Attributes, column_is, group_with, height_found, part_with, place_from, UnwrapsOrElse, is_default-value, own_entry, table_length, min}
use Rattle.multi_judge.specs.internal.Table.{width_in}
use Rattle.multi_judge.proofs.place.place_at.Goals as goal

bottom_if : (o : Option CountedLine) (l : CountedLine) → UnwrapsOrElse o is_default-value.it l → l.bottom ≡ option_map_or (λ (l : CountedLine). l.bottom) o 0
bottom_if o l is = search rules

pub returns-clause-place : goal.returns-clause-place
returns-clause-place c before all rest spot glyph at width area lines joins apart order =
    let page = ap (λ (a : Attributes). page_number a.page_just) at in
    let (count_is, line) = group_with before spot c.args.area.now glyph area (subst (λ n. largest (λ (t : Spot). page_number t.at.page_just) (area_of spot before) ≤ n) page order) in
    let all_lines = lines_of (group_of spot all) in
    let there : count_by is_break (group_of spot before) < length all_lines = rw joins (line_is_there (group_of spot before) rest spot) in
    let ended : c.args.area.now.group.ended ≡ count_by is_break (group_of spot before) = omega (arith, count_is, there, ap length lines, table_length all_lines) in
    let counted = c.line_at-line.result in
    let entry : counted ≡ own_entry before all spot = c.line_at-line.ensures.line (own_entry before all spot) (rw (lines, ended) (look_up all_lines (count_by is_break (group_of spot before)) there)) in
    let own : c.number-just.result ≡ line_number spot.at.line_just = c.number-just.ensures.number ∙ ap (λ (a : Attributes). line_number a.line_just) at in
    let size : c.width-size.result ≡ width_in (line_number spot.at.line_just) counted = c.width-size.ensures ∙ ap (λ n. width_in n counted) own in
    let narrow : width_in (line_number spot.at.line_just) counted < 2 ^ 16 = omega (arith, size) in
    let few : counted.characters < 2 ^ 16 = omega arith in
    let part = c.args.area.now.group.line.part in
    let (wide, count) = part_with before all rest spot c.args.area.now.group.line counted glyph line apart joins entry narrow few in
    let just = line_number c.args.attributes.now.line_just in
    place_from before all spot c.args.attributes.now c.args.area.now.group c.args.lines.now counted _ _ c.unwrap_or_default-bottom.result.bottom at ended lines there c.line_at-line.ensures.line
    (rw (c.from-6.ensures, c.moved.ensures.pixels, c.saturating_sub.ensures, c.from-5.ensures, c.from-right.ensures, c.min-2.ensures, c.from-2.ensures, c.from-4.ensures, c.start.ensures.place, c.from-3.ensures, c.saturating_sub-before.ensures, c.min.ensures, c.from.ensures, c.saturating_sub-spare.ensures, c.width-size.ensures, c.number-just.ensures.number)
    (column_is counted (line_before before spot) spot c.args.attributes.now (min part.width (width_in just counted) - c.args.width) (min part.count counted.characters - 1) at (rw (at, wide, width) refl) count))
    (bottom_if c.copied.result c.unwrap_or_default-bottom.result c.unwrap_or_default-bottom.ensures ∙ height_found all_lines c.copied.result (rw (← lines) (search rules)))
    (rw (c.saturating_sub-2.ensures, c.from-10.ensures, c.from-9.ensures, c.from-8.ensures, c.start-2.ensures.place, c.from-7.ensures, c.number.ensures.number) refl)
