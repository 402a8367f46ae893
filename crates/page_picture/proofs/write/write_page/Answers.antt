use Rattle.std.proofs.Common.{◌-◌, ◌<◌, ◌+◌, ◌≤◌, length, refl, ap, ◌∙◌, subst, arith, ◌≡◌}
use Rattle.multi_token.specs.Counted.{Counted, RisesBetween}
use Rattle.multi_meaning.specs.Picture.{picture}
use Rattle.multi_layout.specs.Limits.{plane_limit, reading_limit}
use Rattle.page_picture.proofs.WriteLemmas
use Rattle.page_picture.proofs.write.write_page.Goals as goal

pub loop-done-preserved : goal.loop-done-preserved
loop-done-preserved c =
    let sign = c.args.checked.now.sign in
    let source = c.args.checked.now.source in
    let l = c.loop-done in
    let plane = c.paint_colour.new.plane in
    let new = c.paint_colour.new.octets in
    let colour = 9 - l.done in
    let octets = ap (λ (s : Counted). s.octets) l.invariant.steps.3 in
    let painted = WriteLemmas.painted_on sign l.checked.sign source.octets l.checked.source.octets c.args.page c.args.phase colour l.octets new l.invariant.sign octets c.paint_colour.ensures.painted in
    let most = subst (λ n. plane.steps ≤ l.plane.steps + n) (ap (λ s. plane_limit s (length l.checked.source.octets)) l.invariant.sign ∙ ap (λ o. plane_limit sign (length o)) octets) c.paint_colour.ensures.plane_steps.1 in
    let least = c.paint_colour.ensures.plane_steps.0 in
    let before = l.invariant.drawn_least in
    record {
      have = WriteLemmas.page_more sign source.octets c.args.page c.args.phase l.done colour l.octets new (let few : l.done < 9 = omega arith in few) refl l.invariant.have painted;
      count = painted.count ∙ l.invariant.count;
      behind = painted.behind ∙ l.invariant.behind;
      sign = c.paint_colour.ensures.kept ∙ l.invariant.sign;
      width = c.paint_colour.ensures.size.0 ∙ l.invariant.width;
      height = c.paint_colour.ensures.size.1 ∙ l.invariant.height;
      steps = WriteLemmas.rises_again source l.checked.source c.paint_colour.new.checked.source (reading_limit (length source.octets)) l.done l.invariant.steps
          (subst (λ o. RisesBetween l.checked.source c.paint_colour.new.checked.source 0 (reading_limit (length o))) octets c.paint_colour.ensures.steps);
      drawn_least = omega (arith, before, least);
      drawn_most = WriteLemmas.drawn_again c.args.plane.now.steps l.plane.steps plane.steps (plane_limit sign (length source.octets)) l.done l.invariant.drawn_most most;
    }

pub returns-clause-colours : goal.returns-clause-colours
returns-clause-colours c =
    let last = c.loop-done-test.false in
    let most = c.loop-done.auto.done-end in
    let all : c.loop-done.done ≡ 9 = omega (arith, last, most) in
    λ column row left above. c.loop-done.invariant.have column row left above ∙ ap (λ n. WriteLemmas.first_of (λ colour. picture c.args.checked.now.sign c.args.checked.now.source.octets c.args.page c.args.phase colour column row) (10 - n) n) all
