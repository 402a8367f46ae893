use Rattle.multi_layout.proofs.Common.{ℕ, Layer, BitPlane, IsPageDrawn, ◌==◌, not, ◌≡◌, ◌+◌, ◌-◌, ◌*◌, ◌++◌, slice_get, refl, sym, ap, subst, ◌∙◌, arith, items_of, next_steps, AreaLines, RisesBetween, false, limited_of, IsRunPassed, AreWidthsOf}
use Rattle.multi_layout.proofs.AreaItemsLemmas.{so_read, nothing_read, so_next}
use Rattle.multi_layout.proofs.AreaLinesLemmas.{passed, goes_within, GoesOn, IsReadFrom, IsReadTo, area_begins, ends_at, ends_string, read_within, run_gone}
use Rattle.multi_layout.proofs.AreaReadLemmas.{read_lines, read_state}
use Rattle.multi_layout.proofs.WalkLemmas.{font_known, same_octets, steps_of, steps_then, steps_within}
use Rattle.multi_layout.proofs.read.read_lines.Given as given
use Rattle.multi_layout.proofs.read.read_lines.Goals.{Joined-cursor-at, Joined-first}
use Rattle.multi_layout.proofs.read.read_lines.Goals as goal

pub loop-first-init : goal.loop-first-init
loop-first-init g c = record {
  so_far = λ layer page plane d. record {
    drawn = d;
    so = nothing_read (not (g.row.WORDS == 0)) c.args.sign.now c.requires.kind d.before d.behind d.up_to.between.laid d.begins d.up_to.between c.new-kept.result c.new-kept.ensures.state c.new-kept.ensures.filled c.clear.new.self c.clear.ensures.none;
  };
  begins = omega arith;
  forward = omega arith;
  first = c.read-first.ensures.octet;
  none = refl;
  steps = steps_within c.args.source.now (steps_of c.args.source.now c.read-first.ensures.step) (omega arith) (omega arith);
}

pub read_item-next-requires-clause-within : goal.read_item-next-requires-clause-within
read_item-next-requires-clause-within g c =
    let (layer, page, plane, d) = c.requires.page in
    rw (same_octets c.loop-first.invariant.steps.3) (c.args.sign.now, _, _, (c.loop-first.invariant.so_far layer page plane d).so.placed)

pub pass_item-requires-clause-known : goal.pass_item-requires-clause-known
pass_item-requires-clause-known g c =
    let i = c.loop-first.invariant in
    let (layer, page, plane, d) = c.requires.page in
    let r = i.so_far layer page plane d in
    let n = so_read r.so (same_octets i.steps.3) c.read_item-next.result c.read_item-next.ensures.item in
    (items_of (r.drawn.before ++ r.so.pieces), n.0.item, r.so.read, so_next r.so c.read_item-next.result n)

-- after a setting before which nothing else was read the cursor stands after it
goes : (g : given.Over) (c : Joined-cursor-at g) → GoesOn c.loop-first.cursor c.loop-first.at c.read_item-next.result c.pass_item.new.kept.state c.if-cursor-at.cursor
goes g c = grind (arith)

-- the item is passed
behind : (g : given.Over) (c : Joined-cursor-at g) (layer : Layer) (page : ℕ) (plane : BitPlane) → IsPageDrawn c.args.sign.now c.args.source.now.octets layer page c.args.cursor.now plane
    → IsReadFrom (not (g.row.WORDS == 0)) c.args.sign.now c.args.source.now.octets layer page plane c.if-cursor-at.cursor (c.loop-first.at + c.read_item-next.result.len) c.pass_item.new.kept c.pass_item.new.lines
behind g c layer page plane d =
    let i = c.loop-first.invariant in
    passed (i.so_far layer page plane d) (same_octets i.steps.3) c.read_item-next.result c.read_item-next.ensures.item (sym c.begins_area.ensures ∙ c.if-begins_area.false) c.pass_item.new.kept c.pass_item.new.lines
    c.pass_item.ensures.known c.requires.sound c.requires.kind c.if-cursor-at.cursor (goes g c)

pub loop-first-preserved-then-this-ne0 : goal.loop-first-preserved-then-this-ne0
loop-first-preserved-then-this-ne0 g c =
    let i = c.loop-first.invariant in
    let start = c.args.source.now in
    let here = (goal.at.loop-first-preserved-then-this-ne0 g c).Joined-cursor-at in
    let octets : c.pass_item.new.source.octets ≡ start.octets = same_octets c.pass_item.ensures.steps.3 ∙ same_octets c.read_item-next.ensures.steps.3 ∙ same_octets i.steps.3 in
    let (begins, forward) = goes_within c.read_item-next.result (goes g here) i.forward in
    let steps = steps_then start (steps_then start (steps_then start i.steps c.read_item-next.ensures.steps) c.pass_item.ensures.steps) (steps_of c.pass_item.new.source c.read-first-then-this-ne0.ensures.step) in
    record {
      so_far = behind g here;
      begins = omega (arith, i.begins, begins);
      forward = forward;
      first = c.read-first-then-this-ne0.ensures.octet ∙ ap (λ o. slice_get o (c.loop-first.at + c.read_item-next.result.len)) octets;
      none = i.none;
      steps = steps_within start steps (omega arith) (omega (arith, i.begins, i.forward, c.read_item-next.ensures.some));
    }

pub unreachable-requires : goal.unreachable-requires
unreachable-requires g c =
    let (layer, page, plane, d) = c.requires.page in
    font_known (read_state c.requires.sound (behind g (goal.at.unreachable-requires g c).Joined-cursor-at layer page plane d).so.read) (rw (← c.sign.view_is) (sym c.cells.ensures.cells ∙ c.in_default-cells.is))

pub go_along-run-requires-clause-limited : goal.go_along-run-requires-clause-limited
go_along-run-requires-clause-limited g c =
    let (layer, page, plane, d) = c.requires.page in
    let r = behind g (goal.at.go_along-run-requires-clause-limited g c).Joined-cursor-at layer page plane d in
    limited_of (not (g.row.WORDS == 0)) (ap (λ n. not (n == 0)) c.if-this-ne0.false) c.args.sign.now c.pass_item.new.kept _ r.so.read.of

pub loop-first-preserved : goal.loop-first-preserved
loop-first-preserved g c =
    let i = c.loop-first.invariant in
    let start = c.args.source.now in
    let here = (goal.at.loop-first-preserved g c).Joined-cursor-at in
    let octets : c.cells.new.source.octets ≡ start.octets = same_octets c.cells.ensures.step ∙ same_octets c.pass_item.ensures.steps.3 ∙ same_octets c.read_item-next.ensures.steps.3 ∙ same_octets i.steps.3 in
    let is = c.is_octet.ensures.octet c.if-not-is_octet.false in
    let off : not (g.row.WORDS == 0) ≡ false = ap (λ n. not (n == 0)) c.if-this-ne0.false in
    let at = c.loop-first.at + c.read_item-next.result.len in
    let state = c.pass_item.new.kept.state in
    let along = c.go_along-run.ensures in
    let len = c.go_along-run.result.len in
    let widths : AreWidthsOf c.args.sign.now state.attributes.font.number c.in-Some-cells.cells = rw (← c.sign.view_is) c.in-Some-cells.ensures.widths in
    let run = subst (λ o. IsRunPassed c.args.sign.now o at c.go_along-run.result.width state (at + len) c.go_along-run.new.self) octets (along.run c.args.sign.now widths) in
    let (begins, forward) = goes_within c.read_item-next.result (goes g here) i.forward in
    let one = steps_then start (steps_then start i.steps c.read_item-next.ensures.steps) (steps_of c.read_item-next.new.source (c.pass_item.ensures.octet is)) in
    let steps = steps_then start (steps_then start one (steps_of c.pass_item.new.source c.cells.ensures.step)) (steps_of c.cells.new.source along.steps) in
    record {
      so_far = λ layer page plane d.
          let r = behind g here layer page plane d in
          record {
            drawn = r.drawn;
            so = run_gone off c.requires.sound (omega (arith, read_within r)) at (at + len) c.go_along-run.result.width c.pass_item.new.kept c.go_along-run.new.self c.pass_item.new.lines (c.pass_item.ensures.behind is off) r.so run;
          };
      begins = omega (arith, i.begins, begins);
      forward = omega (arith, run.forward, forward);
      first = (let mapped = c.map-first.ensures.cases in grind (arith, along.next, mapped)) ∙ ap (λ o. slice_get o (at + len)) octets;
      none = i.none;
      steps = steps_within start steps (omega arith) (omega (arith, run.forward, i.begins, i.forward, c.read_item-next.ensures.some));
    }

-- the reading is over
over : (g : given.Over) (c : Joined-first g) (layer : Layer) (page : ℕ) (plane : BitPlane) → IsPageDrawn c.args.sign.now c.args.source.now.octets layer page c.args.cursor.now plane
    → IsReadTo (not (g.row.WORDS == 0)) c.args.sign.now c.args.source.now.octets layer page plane c.loop-first.cursor c.loop-first.at c.loop-first.kept c.match-first.read.lines c.match-first.read.next
over g c layer page plane d =
    let i = c.loop-first.invariant in
    let r = i.so_far layer page plane d in
    elim c.match-first.branch [
      | goal.in-Some+then-begins_area w ↦ rw w.read-is (ends_at r (same_octets i.steps.3) w.read_item-next.result w.read_item-next.ensures.item (sym w.begins_area.ensures ∙ w.if-begins_area.true))
      | goal.in_default w ↦ rw (w.read-is, i.none) (ends_string r (sym i.first ∙ w.in_default.is))
    ]

pub end_group-requires : goal.end_group-requires
end_group-requires g c =
    let (layer, page, plane, d) = c.requires.page in
    let last = (over g (goal.at.end_group-requires g c).Joined-first layer page plane d).from in
    read_lines c.requires.sound {items = items_of (last.drawn.before ++ last.so.pieces)} last.so.read

pub returns-clause-read : goal.returns-clause-read
returns-clause-read g c = λ layer page plane d. area_begins _ (over g (goal.at.returns-clause-read g c).Joined-first layer page plane d) c.requires.sound c.requires.kind c.end_group.ensures.known refl

pub returns-clause-steps : goal.returns-clause-steps
returns-clause-steps g c =
    let i = c.loop-first.invariant in
    let start = c.args.source.now in
    let most = 9 * (c.loop-first.at - c.args.cursor.now.at) + 1 + next_steps c.match-first.read.next in
    elim c.match-first.branch [
      | goal.in-Some+then-begins_area w ↦ subst (λ s. RisesBetween start s 0 most) (sym w.source-is) (steps_within start (steps_then start i.steps w.read_item-next.ensures.steps) (omega arith) (omega (arith, ap (λ (r : AreaLines). next_steps r.next) w.read-is)))
      | goal.in_default w ↦ subst (λ s. RisesBetween start s 0 most) (sym w.source-is) (steps_within start i.steps (omega arith) (omega arith))
    ]
