use Rattle.std.proofs.Common.{◌≡◌, ◌++◌, ◌<◌, length, sym, ap, ◌∙◌, subst, arith}
use Rattle.std.specs.List.{All}
use Rattle.page_picture.specs.Dots.{dots, row_points, value_at}
use Rattle.page_picture.proofs.CountLemmas
use Rattle.page_picture.proofs.DotLemmas
use Rattle.page_picture.proofs.points.dot_points.Goals as goal

pub push_row-requires-clause-there : goal.push_row-requires-clause-there
push_row-requires-clause-there c =
    let most = CountLemmas.row_inside c.args.width c.args.height c.loop-row.row c.loop-row-test.true in
    omega (arith, most, c.requires.whole)

pub loop-row-init : goal.loop-row-init
loop-row-init c = c.new-points.ensures.items ∙ sym (DotLemmas.rows_none c.args.side (value_at c.args.colours.now c.args.width) c.args.width)

pub loop-row-preserved : goal.loop-row-preserved
loop-row-preserved c =
    let at = value_at c.args.colours.now c.args.width in
    c.in_ok-push_row.ensures
    ∙ ap (λ l. l ++ row_points c.args.side at c.args.width c.loop-row.row c.args.side) c.loop-row.invariant
    ∙ sym (DotLemmas.rows_more c.args.side at c.args.width c.loop-row.row)

pub returns : goal.returns
returns c =
    let at = value_at c.args.colours.now c.args.width in
    let last = c.loop-row-test.false in
    let most = c.loop-row.auto.row-end in
    let end : c.loop-row.row ≡ c.args.height = omega (arith, last, most) in
    let all = c.loop-row.invariant ∙ ap (dots c.args.side at c.args.width) end in
    let counted = CountLemmas.all_dots c.args.side at c.args.width c.args.height (λ column row. CountLemmas.small_at c.args.colours.now c.args.width column row c.requires.colours) in
    record {
      points = all;
      range = subst (All (λ point. point < 16)) (sym all) counted.0;
      count = ap length all ∙ counted.1;
    }
