use Rattle.multi_layout.proofs.Common.{◌≡◌, height_of, lines_of, ◌+◌, refl, ap, ◌∙◌, arith, after_last, in_group, is_break, placing_group, Area, group_of_own, open_entry, group_known, group_there, own_line}
use Rattle.multi_layout.proofs.KnownLinesLemmas.{behind_empty, known_later, last_known, last_room, nothing_left}
use Rattle.multi_layout.proofs.read.end_group.Goals as goal

pub of-requires : goal.of-requires
of-requires c =
    let area = c.args.area.now in
    let k = c.requires in
    let (wide, tall) = k.narrow area.present (group_there k.spots area k.sum c.if-group.true) (group_known k.spots area k.sum) in
    let height = c.height.ensures.sum (in_group area.present k.spots) (placing_group area.present k.spots k.placing) (group_of_own k.spots area k.sum area.present refl) in
    record { narrow = (after_last is_break (in_group area.present k.spots), own_line k.spots area k.sum, wide); low = omega (arith, tall, height) }

pub push-requires : goal.push-requires
push-requires c =
    let area = c.args.area.now in
    let k = c.requires in
    let some = group_there k.spots area k.sum c.if-group.true in
    record {
      known = (some, group_known k.spots area k.sum);
      room = last_room k.spots area k.sum c.if-group.true some (group_known k.spots area k.sum) c.args.lines.now k.known k.room;
      last = behind_empty k.spots c.args.lines.now area.present (omega (arith, ap (λ (a : Area). a.present) k.sum)) some k.known;
    }

pub returns-then-group : goal.returns-then-group
returns-then-group c = record {
  known = λ present later spots placing narrow sum known.
      let area = c.args.area.now in
      let own = ap (λ (a : Area). a.present) sum in
      let low = group_there spots area sum c.if-group.true in
      let high = group_known spots area sum in
      let height : c.height.result ≡ height_of (lines_of (in_group area.present spots)) =
      omega (arith, c.height.ensures.sum (in_group area.present spots) (placing_group area.present spots placing) (group_of_own spots area sum area.present refl), (narrow area.present low high).1) in
      let entry = c.of.ensures.entry (after_last is_break (in_group area.present spots)) (own_line spots area sum) (narrow area.present low high).0 ∙ ap (open_entry (in_group area.present spots)) height in
      known_later spots c.push.new.self (area.present + 1) present (omega (arith, own)) (omega (arith, own, later))
      (last_known spots area sum c.if-group.true low high c.args.lines.now known c.push.new.self c.of.result entry c.push.ensures.pushed);
}

pub returns-else-group : goal.returns-else-group
returns-else-group c = record {
  known = λ present later spots placing narrow sum known.
      let area = c.args.area.now in
      let own = ap (λ (a : Area). a.present) sum in
      known_later spots c.args.lines.now (area.present + 1) present (omega (arith, own)) (omega (arith, own, later)) (nothing_left spots area sum placing c.args.lines.now c.if-group.false known);
}
