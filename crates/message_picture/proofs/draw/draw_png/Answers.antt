use Rattle.std.proofs.Common.{ap, ◌∙◌, subst}
use Rattle.page_picture.specs.Shown.{IsThere, colours}
use Rattle.message_film.specs.Moving.{seen_points}
use Rattle.message_picture.specs.Drawn.{IsPngOf, seen}
use Rattle.message_picture.proofs.DrawingLemmas
use Rattle.message_picture.proofs.draw.draw_png.Goals as goal

pub returns-clause-drawn : goal.returns-clause-drawn
returns-clause-drawn c =
    let sign = c.args.sign.now in
    let text = c.args.checked.now.source.octets in
    let shown = c.in_ok-shown.shown in
    let is = c.in_ok-shown.ensures.seen ∙ ap (λ s. seen s text c.args.moment) c.requires.sign in
    let drawn = c.deref.ensures.value ∙ c.in_ok-colours.ensures.colours ∙ ap (λ t. colours sign t shown) c.in_ok-shown.ensures.kept.1 in
    subst (λ at. IsThere text at × IsPngOf c.args.side sign (seen_points c.args.side sign text at) c.in_ok-file.file.items) is (
      c.in_ok-shown.ensures.there,
      DrawingLemmas.is_png c.args.side c.width.result c.height.result c.classic.result sign text c.deref.result.now shown c.in_ok-file.file.items
          c.width.ensures.width c.height.ensures.height c.classic.ensures.classic drawn c.in_ok-file.ensures,
    )
