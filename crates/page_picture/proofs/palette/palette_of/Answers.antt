use Rattle.std.proofs.Common.{◌≡◌, ◌++◌, ap, ◌∙◌, sym, arith, length}
use Rattle.std.specs.List.{flat_map, range_with_len}
use Rattle.page_picture.specs.Palette.{shares}
use Rattle.page_picture.proofs.PaletteLemmas
use Rattle.page_picture.proofs.palette.palette_of.Goals as goal

pub loop-number-preserved : goal.loop-number-preserved
loop-number-preserved c =
    c.in_ok-push_octets.ensures.text
    ∙ ap (λ l. c.loop-number.octets.items ++ l) c.shares.ensures
    ∙ ap (λ l. l ++ shares c.args.classic c.loop-number.number) c.loop-number.invariant
    ∙ sym (PaletteLemmas.numbers_more c.args.classic c.loop-number.number)

pub returns : goal.returns
returns c =
    let last = c.loop-number-test.false in
    let most = c.loop-number.auto.number-end in
    let end : c.loop-number.number ≡ 16 = omega (arith, last, most) in
    let all = c.loop-number.invariant ∙ ap (λ n. flat_map (shares c.args.classic) (range_with_len 0 n)) end ∙ PaletteLemmas.is_palette c.args.classic in
    record {
      shares = all;
      count = ap length all ∙ PaletteLemmas.count c.args.classic;
    }
