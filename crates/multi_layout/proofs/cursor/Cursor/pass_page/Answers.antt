use Rattle.multi_layout.proofs.Common.{◌≡◌, ◌+◌, ◌-◌, ◌*◌, ◌==◌, not, RisesBetween, map, meaning, unplaced, slice_get, sym, ap, ◌∙◌, arith}
use Rattle.multi_layout.proofs.PagesLemmas.{page_over, passed_last, free_fine}
use Rattle.multi_layout.proofs.PageDrawLemmas.{if_same}
use Rattle.multi_layout.proofs.PassedLemmas.{passed_all, passed_character, passed_none, passed_over, passed_tag}
use Rattle.multi_layout.proofs.WalkLemmas.{no_steps, same_octets, steps_of, steps_then, steps_within}
use Rattle.multi_layout.proofs.cursor.Cursor.pass_page.Given as given
use Rattle.multi_layout.proofs.cursor.Cursor.pass_page.Goals.{After-read_item-next}
use Rattle.multi_layout.proofs.cursor.Cursor.pass_page.Goals as goal

pub loop-first-init : goal.loop-first-init
loop-first-init g c = record { passed = passed_none c.args.source.now c.args.phase (not (g.row.FLASHES == 0)) c.requires.begins; on = omega arith; steps = no_steps c.args.source.now }

-- the item was read of the octets of the string
same : (g : given.Over) (c : After-read_item-next g) → c.read.new.self.octets ≡ c.args.source.now.octets
same g c = same_octets c.read.ensures.step ∙ same_octets c.loop-first.invariant.steps.3

-- and it took fewer than nine steps for each octet
fewer : (g : given.Over) (c : After-read_item-next g) → RisesBetween c.args.source.now c.read_item-next.new.source 0 (9 * (c.loop-first.self.at + c.read_item-next.result.len - c.args.self.now.at) - 1)
fewer g c =
    let i = c.loop-first.invariant in
    let start = c.args.source.now in
    steps_within start (steps_then start (steps_then start i.steps (steps_of c.loop-first.source c.read.ensures.step)) c.read_item-next.ensures.steps) (omega arith) (omega (arith, i.on, c.read_item-next.ensures.some))

-- A CHARACTER OR AN `nl`

pub loop-first-preserved-then-has_place : goal.loop-first-preserved-then-has_place
loop-first-preserved-then-has_place g c =
    let i = c.loop-first.invariant in
    let here = (goal.at.loop-first-preserved-then-has_place g c).After-read_item-next in
    record {
      passed = passed_character i.passed c.read_item-next.result (same g here) c.read_item-next.ensures.item c.read.new.self c.read.ensures.step c.read_item-next.ensures.rest (sym c.has_place.ensures ∙ c.if-has_place.true) c.sooner_with-soonest.ensures;
      on = omega (arith, i.on);
      steps = steps_within c.args.source.now (fewer g here) (omega arith) (omega arith);
    }

-- ANOTHER TAG

pub pass_tag-requires-clause-fine : goal.pass_tag-requires-clause-fine
pass_tag-requires-clause-fine g c =
    let s = c.loop-first.invariant.passed.way in
    (unplaced (map meaning s.before), s.between.state_is, free_fine s c.read_item-next.result (same g (goal.at.pass_tag-requires-clause-fine g c).After-read_item-next) c.read_item-next.ensures.item (sym c.has_place.ensures ∙ c.if-has_place.false))

pub returns-then-ends_page : goal.returns-then-ends_page
returns-then-ends_page g c =
    let i = c.loop-first.invariant in
    let here = (goal.at.returns-then-ends_page g c).After-read_item-next in
    let free = sym c.has_place.ensures ∙ c.if-has_place.false in
    let new = sym c.ends_page.ensures ∙ c.if-ends_page.true in
    let (counted, soonest) = passed_over i.passed c.read_item-next.result (same g here) c.read_item-next.ensures.item c.read.new.self c.read.ensures.step c.read_item-next.ensures.rest free c.pass_tag.ensures.at c.pass_tag.ensures.passed c.pass_tag.ensures.looks c.sooner_with-soonest.ensures new in
    let passed = page_over i.passed.way c.read_item-next.result (same g here) c.read_item-next.ensures.item free c.pass_tag.ensures.at c.pass_tag.ensures.passed new i.on in
    record {
      passed = passed;
      on = omega (arith, i.on, c.pass_tag.ensures.at);
      steps = steps_within c.args.source.now (steps_then c.args.source.now (fewer g here) c.pass_tag.ensures.steps) (omega arith) (omega (arith, c.pass_tag.ensures.at, c.read_item-next.ensures.some, i.on));
      counted = counted;
      soonest = soonest;
    }

pub loop-first-preserved : goal.loop-first-preserved
loop-first-preserved g c =
    let i = c.loop-first.invariant in
    let here = (goal.at.loop-first-preserved g c).After-read_item-next in
    record {
      passed = passed_tag i.passed c.read_item-next.result (same g here) c.read_item-next.ensures.item c.read.new.self c.read.ensures.step c.read_item-next.ensures.rest (sym c.has_place.ensures ∙ c.if-has_place.false) c.pass_tag.ensures.at c.pass_tag.ensures.passed c.pass_tag.ensures.looks c.sooner_with-soonest.ensures
          (sym c.ends_page.ensures ∙ c.if-ends_page.false);
      on = omega (arith, i.on, c.pass_tag.ensures.at);
      steps = steps_within c.args.source.now (steps_then c.args.source.now (fewer g here) c.pass_tag.ensures.steps) (omega arith) (omega (arith, c.pass_tag.ensures.at, c.read_item-next.ensures.some, i.on));
    }

-- THE END OF THE STRING

pub returns : goal.returns
returns g c =
    let i = c.loop-first.invariant in
    let end = ap (λ o. slice_get o c.loop-first.self.at) (sym (same_octets i.steps.3)) ∙ sym c.read.ensures.octet ∙ c.in_default.is in
    let (counted, soonest) = passed_all i.passed end c.read.ensures.step in
    record {
      passed = passed_last i.passed.way end;
      on = i.on;
      steps = grind (arith, steps_then c.args.source.now i.steps (steps_of c.loop-first.source c.read.ensures.step), if_same c.loop-first.self.state.pages c.args.self.now.state.pages 1 i.passed.way.same, steps_within);
      counted = counted;
      soonest = soonest;
    }
