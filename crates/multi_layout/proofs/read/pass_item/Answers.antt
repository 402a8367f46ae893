use Rattle.multi_layout.proofs.Common.{List, Item, IsNextRead, IsReadOf, next_group, not, ◌==◌, ◌≡◌, ℕ, inl, inr, Option, None, Some, map, sym, ◌∙◌, code_of, meaning, meant_by, KnownItem, ap, arith, charged, lt-ltb, IsOctet, looks_most}
use Rattle.multi_meaning.specs.Steps.{looks}
use Rattle.multi_layout.proofs.AreaReadLemmas.{left_if, line_ended, next_fine, no_line_ended, read_lines, read_ready}
use Rattle.multi_layout.proofs.read.pass_item.Given as given
use Rattle.multi_layout.proofs.read.pass_item.Goals.{In-Ok}
use Rattle.multi_layout.proofs.read.pass_item.Goals as goal

pub end_group-requires : goal.end_group-requires
end_group-requires g c =
    let (before, item, r, next) = c.requires.known in
    read_lines c.requires.sound r

pub judge_item-requires : goal.judge_item-requires
judge_item-requires g c = let (before, item, r, next) = c.requires.known in record { ready = read_ready c.requires.sound r }

pub unreachable-requires : goal.unreachable-requires
unreachable-requires g c =
    let (before, item, r, next) = c.requires.known in
    let wrong : ◌≡◌ {A = Option ℕ} (Some (code_of c.in_default.field-0)) None = sym (c.in_default.ensures.judged (map meaning before) r.of) ∙ next_fine next in
    cc

-- the group before the item is left, if the item belongs to a later one
left : (g : given.Over) (c : In-Ok g) {before : List Item} {item : Item} → IsReadOf (not (g.row.WORDS == 0)) c.args.sign.now before c.args.kept.now.state.area.present c.args.kept.now c.args.lines.now → IsNextRead c.args.sign.now before item c.args.item
    → IsReadOf (not (g.row.WORDS == 0)) c.args.sign.now before (next_group c.args.kept.now.state (meant_by c.args.item)) c.args.kept.now c.if-has_place-kept.lines
left g c was next = left_if c.requires.sound {kept = c.args.kept.now} was next c.if-has_place-kept.lines c.has_place.result c.has_place.ensures c.number.result c.number.ensures.number (elim c.if-has_place-kept.branch [
  | goal.then-has_place-kept w ↦ inl (w.if-has_place-kept.true, rw w.lines-is w.end_group.ensures.known)
  | goal.else-has_place-kept w ↦ inr (w.if-has_place-kept.false, w.lines-is)
])

pub of-requires : goal.of-requires
of-requires g c =
    let (before, item, was, next) = c.requires.known in
    let l = line_ended c.requires.sound (left g (goal.at.of-requires g c).In-Ok was next) next (c.in-Ok.ensures.judged (map meaning before) was.of) c.requires.plain c.in-Some.line c.in-Some.is in
    record { narrow = l.narrow; low = l.closed }

pub push-requires : goal.push-requires
push-requires g c =
    let (before, item, was, next) = c.requires.known in
    let l = line_ended c.requires.sound (left g (goal.at.push-requires g c).In-Ok was next) next (c.in-Ok.ensures.judged (map meaning before) was.of) c.requires.plain c.in-Some.line c.in-Some.is in
    record { known = l.just; room = l.room; last = l.last }

pub returns-in-Some-clause-known : goal.returns-in-Some-clause-known
returns-in-Some-clause-known g c = λ before item was next.
    let l = line_ended c.requires.sound (left g (goal.at.returns-in-Some-clause-known g c).In-Ok was next) next (c.in-Ok.ensures.judged (map meaning before) was.of) c.requires.plain c.in-Some.line c.in-Some.is in
    l.ended c.of.result c.push.new.self c.of.ensures.entry c.push.ensures.pushed

pub returns-in_default-ended-clause-known : goal.returns-in_default-ended-clause-known
returns-in_default-ended-clause-known g c = λ before item was next.
    no_line_ended c.requires.sound (left g (goal.at.returns-in_default-ended-clause-known g c).In-Ok was next) next (c.in-Ok.ensures.judged (map meaning before) was.of) c.requires.plain c.in_default-ended.is

-- the looks of an octet
one_look : (item : KnownItem) → IsOctet item → looks (meant_by item) ≡ 1
one_look item small = grind (arith, lt-ltb)

pub returns-in-Some-clause-octet : goal.returns-in-Some-clause-octet
returns-in-Some-clause-octet g c = λ octet. c.judge_item.ensures.steps ∙ ap (charged c.args.source.now) (one_look c.args.item octet)

pub returns-in-Some-clause-steps : goal.returns-in-Some-clause-steps
returns-in-Some-clause-steps g c = (looks (meant_by c.args.item), omega arith, looks_most (meant_by c.args.item), c.judge_item.ensures.steps)

pub returns-in_default-ended-clause-octet : goal.returns-in_default-ended-clause-octet
returns-in_default-ended-clause-octet g c = λ octet. c.judge_item.ensures.steps ∙ ap (charged c.args.source.now) (one_look c.args.item octet)

pub returns-in_default-ended-clause-steps : goal.returns-in_default-ended-clause-steps
returns-in_default-ended-clause-steps g c = (looks (meant_by c.args.item), omega arith, looks_most (meant_by c.args.item), c.judge_item.ensures.steps)

pub returns-in_default-ended-clause-behind : goal.returns-in_default-ended-clause-behind
returns-in_default-ended-clause-behind g c = λ is off. (c.in-Ok.ensures.behind is).behind off
