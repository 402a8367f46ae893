use Rattle.multi_layout.proofs.Common.{rules, ◌≡◌, [], ◌∷◌, ◌++◌, true, refl, sym, ap, ◌∙◌, arith, spelling_some, begins_area, has_place, is_new_page, meant, next_steps}
use Rattle.multi_layout.proofs.AreaDrawLemmas.{filled_longer, filled_none}
use Rattle.multi_layout.proofs.DrawLemmas.{four_octets}
use Rattle.multi_layout.proofs.PageDrawLemmas.{IsAreaPassed, area_passed, if_same, last_passed, last_shown, new_page_is, next_area, page_begins, page_ends, page_filled, page_goes_on, page_passed}
use Rattle.multi_layout.proofs.PieceLemmas.{begins_tag, itself}
use Rattle.multi_layout.proofs.WalkLemmas.{no_steps, ready_between, same_octets, steps_then, steps_within, item_fine, item_fits, tag_passed, within_between}
use Rattle.multi_layout.proofs.draw.draw_page.Goals.{After-draw_area}
use Rattle.multi_layout.proofs.draw.draw_page.Goals as goal

pub loop-read-init : goal.loop-read-init
loop-read-init c = first_of (search (rules, page_begins, no_steps, filled_none), grind (arith, page_begins, no_steps, filled_none))

pub draw_area-requires-clause-begins : goal.draw_area-requires-clause-begins
draw_area-requires-clause-begins c = (c.args.cursor.now.state.pages, rw (same_octets c.loop-read.invariant.steps.3) c.loop-read.invariant.drawn)

-- the areas so far are passed, the last one drawn
area : (c : After-draw_area) → IsAreaPassed c.args.sign.now c.args.layer c.args.cursor.now.state.pages c.draw_area.new.read c.args.cursor.now c.draw_area.new.cursor c.args.source.now c.draw_area.new.source c.fill.new.self c.draw_area.new.plane
area c =
    let i = c.loop-read.invariant in
    area_passed i.drawn i.on i.steps i.filled (c.draw_area.ensures.drawn c.args.cursor.now.state.pages) c.draw_area.ensures.at c.draw_area.ensures.steps c.draw_area.ensures.fills

pub returns-in_default : goal.returns-in_default
returns-in_default c =
    let start = c.args.cursor.now in
    let new = c.draw_area.new.cursor in
    let e = area (goal.at.returns-in_default c).After-draw_area in
    record {
      drawn = last_shown e.drawn e.reached c.in_default.is;
      passed = last_passed e.drawn e.reached c.in_default.is start refl e.on;
      size = search rules;
      kept = e.same;
      steps = steps_within c.args.source.now e.steps (omega arith) (omega (arith, e.on, ap next_steps c.in_default.is, if_same new.state.pages start.state.pages 2 e.drawn.up_to.page_is));
      fills = page_filled c.args.sign.now c.args.plane.now c.fill.new.self start new c.requires.size c.fill.ensures.steps e.fills (omega arith) (omega (arith, if_same new.state.pages start.state.pages 4 e.drawn.up_to.page_is));
    }

pub pass_tag-requires : goal.pass_tag-requires
pass_tag-requires c =
    let n = next_area (area (goal.at.pass_tag-requires c).After-draw_area) c.in-Some.is in
    let b = n.up_to.between in
    grind (arith, ready_between c.args.sign.now c.args.source.now.octets n.before (n.item ∷ n.rest) c.draw_area.new.cursor b, begins_tag c.in-Some.next.item (ap begins_area (sym n.read_is.meant) ∙ n.begins), item_fine b n.read_is, item_fits {before = n.before} {rest = n.rest} {item = n.item} b n.read_is)

pub returns-then-ends_page : goal.returns-then-ends_page
returns-then-ends_page c =
    let source = c.args.source.now in
    let start = c.args.cursor.now in
    let new = c.pass_tag.new.self in
    let e = area (goal.at.returns-then-ends_page c).After-draw_area in
    let n = next_area e c.in-Some.is in
    let turns : is_new_page (meant n.item) ≡ true = ap is_new_page n.read_is.meant ∙ sym c.ends_page.ensures ∙ c.if-ends_page.true in
    let page = new_page_is (meant n.item) turns in
    let four = four_octets n.item.item _ ((itself n.up_to.between (ap has_place page)).1 ∙ page) in
    let far = c.pass_tag.ensures.at in
    record {
      drawn = page_ends n turns;
      passed = page_passed n turns start new refl (tag_passed n.up_to.between n.read_is new far c.pass_tag.ensures.passed) (omega (arith, e.on, far));
      size = search rules;
      kept = same_octets c.pass_tag.ensures.steps.3 ∙ e.same;
      steps = steps_within source (steps_then source e.steps c.pass_tag.ensures.steps) (omega arith) (omega (arith, e.on, far, n.read_is.len, four, ap next_steps c.in-Some.is));
      fills = page_filled c.args.sign.now c.args.plane.now c.fill.new.self start new c.requires.size c.fill.ensures.steps e.fills (omega (arith, e.on, far)) (omega (arith, e.on, far, n.read_is.len, four));
    }

pub loop-read-smaller : goal.loop-read-smaller
loop-read-smaller c =
    let n = next_area (area (goal.at.loop-read-smaller c).After-draw_area) c.in-Some.is in
    let behind = tag_passed n.up_to.between n.read_is c.pass_tag.new.self c.pass_tag.ensures.at c.pass_tag.ensures.passed in
    omega (arith, c.draw_area.ensures.at, c.pass_tag.ensures.at, n.read_is.len, spelling_some n.item.item, within_between c.args.sign.now c.args.source.now.octets (n.before ++ n.item ∷ []) n.rest c.pass_tag.new.self behind)

pub loop-read-preserved : goal.loop-read-preserved
loop-read-preserved c =
    let source = c.args.source.now in
    let e = area (goal.at.loop-read-preserved c).After-draw_area in
    let n = next_area e c.in-Some.is in
    let far = c.pass_tag.ensures.at in
    record {
      drawn = page_goes_on n (ap is_new_page n.read_is.meant ∙ sym c.ends_page.ensures ∙ c.if-ends_page.false) c.pass_tag.new.self (tag_passed n.up_to.between n.read_is c.pass_tag.new.self far c.pass_tag.ensures.passed);
      on = omega (arith, e.on, far);
      steps = steps_within source (steps_then source e.steps c.pass_tag.ensures.steps) (omega arith) (omega (arith, e.on, far, n.read_is.len, spelling_some n.item.item, ap next_steps c.in-Some.is));
      filled = filled_longer c.args.sign.now c.fill.new.self c.draw_area.new.plane _ _ (omega (arith, far)) e.fills;
    }
