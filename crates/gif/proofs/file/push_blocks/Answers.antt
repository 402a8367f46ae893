use Rattle.std.proofs.Common.{◌≡◌, ◌++◌, ◌+◌, ◌-◌, ◌≤◌, length, take, drop, length-drop, ap, ◌∙◌, arith}
use Rattle.std.proofs.lemmas.List.{take_all, length-take-le}
use Rattle.gif.proofs.BlockLemmas
use Rattle.gif.proofs.file.push_blocks.Goals as goal

pub loop-start-preserved : goal.loop-start-preserved
loop-start-preserved c =
    let l = c.loop-start in
    let count = c.min-count.result in
    let content = c.args.content.now in
    let m = c.min-count.ensures in
    let test = c.loop-start-test.true in
    let inside : l.start + count ≤ length content = omega (arith, m, test) in
    let part = take (l.start + count - l.start) (drop l.start content) in
    let same : l.start + count - l.start ≡ count = omega arith in
    let is : part ≡ take count (drop l.start content) = ap (λ n. take n (drop l.start content)) same in
    let left = length-drop l.start content in
    let long : length part ≡ count = ap length is ∙ length-take-le count (drop l.start content) (omega (arith, left, inside)) in
    record {
      inside = inside;
      so_far = BlockLemmas.so_far_more _ _ _ _ part l.start count l.invariant.so_far (omega (arith, m, test)) (omega (arith, m)) (λ more. omega (arith, m, more)) test long is
          (c.in_ok-extend_from_slice.ensures.items ∙ ap (λ o. o ++ part) c.in_ok-push.ensures.items);
    }

pub returns : goal.returns
returns c = record {
  blocks = BlockLemmas.so_far_all _ _ _ _ _ c.loop-start.invariant.so_far (take_all c.loop-start.start c.args.content.now c.loop-start-test.false) c.in_ok-push-2.ensures.items;
  size = BlockLemmas.size_all _ _ _ _ c.loop-start.start c.loop-start.invariant.so_far c.loop-start.invariant.inside (take_all c.loop-start.start c.args.content.now c.loop-start-test.false)
      c.in_ok-push-2.ensures.items;
}
