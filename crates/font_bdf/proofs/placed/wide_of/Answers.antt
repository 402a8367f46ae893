use Rattle.std.proofs.Common.{ap, ◌∙◌, rules}
use Rattle.std.specs.Prelude.{ℤ, ◌+ℤ◌}
use mir.Syntax.{w64}
use mir.Val.{SFits}
use Rattle.std.proofs.lemmas.Int.{to_z-of_z}
use Rattle.font_bdf.proofs.PlacedLemmas.{columns_apart}
use Rattle.font_bdf.proofs.placed.wide_of.Goals as goal

pub returns : goal.returns
returns c =
    let wide : SFits w64 c.apart.result = search rules in
    let last : SFits w64 c.last_of-last.result = search rules in
    let begin : SFits w64 c.begin_of.result = search rules in
    let end : SFits w64 c.end_of.result = search rules in
    let edge : SFits w64 c.edge_of.result = search rules in
    record {
      wide = to_z-of_z w64 c.apart.result wide ∙ columns_apart _ _ _ _ _ _ _ _ c.apart.ensures.columns (to_z-of_z w64 c.last_of-last.result last ∙ c.last_of-last.ensures.last)
          (to_z-of_z w64 c.end_of.result end ∙ c.end_of.ensures.end ∙ ap (λ (z : ℤ). c.args.bitmap.now.left +ℤ z) (to_z-of_z w64 c.args.wide c.ranges.wide)) (to_z-of_z w64 c.edge_of.result edge ∙ c.edge_of.ensures.edge)
          (to_z-of_z w64 c.begin_of.result begin ∙ c.begin_of.ensures.begin);
    }
