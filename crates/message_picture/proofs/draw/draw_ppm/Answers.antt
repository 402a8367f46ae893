use Rattle.std.proofs.Common.{◌≡◌, ◌++◌, ap, ◌∙◌, subst}
use Rattle.page_picture.specs.Ppm.{scaled_ppm}
use Rattle.page_picture.specs.Shown.{AreShown, IsThere}
use Rattle.message_picture.specs.Drawn.{ppm_of, seen}
use Rattle.message_picture.proofs.PpmLemmas
use Rattle.message_picture.proofs.draw.draw_ppm.Goals as goal

pub returns-clause-drawn : goal.returns-clause-drawn
returns-clause-drawn c =
    let sign = c.args.sign.now in
    let octets = c.args.checked.now.source.octets in
    let shown = c.in_ok-shown.shown in
    let page = c.in_ok-colours.colours in
    let is = c.in_ok-shown.ensures.seen ∙ ap (λ s. seen s octets c.args.moment) c.requires.sign in
    let colours = subst (λ text. AreShown sign text shown page) c.in_ok-shown.ensures.kept.1 c.in_ok-colours.ensures.shown in
    subst (λ at. IsThere octets at × (c.push_scaled_ppm.new.text.items ≡ ppm_of c.args.side sign octets at)) is (
      c.in_ok-shown.ensures.there,
      c.in_ok-push_scaled_ppm.ensures
          ∙ ap (λ l. l ++ scaled_ppm c.args.side c.classic.result page) c.new-file.ensures.items
          ∙ PpmLemmas.is_ppm c.args.side sign octets shown page c.classic.result colours c.classic.ensures.classic,
    )
