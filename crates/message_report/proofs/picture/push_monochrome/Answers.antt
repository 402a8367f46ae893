use Rattle.std.proofs.Common.{◌≡◌, ◌++◌, ◌∙◌, OnOk, refl, subst}
use Rattle.page_picture.proofs.ColourLemmas.{lights_by}
use Rattle.message_report.proofs.PageLemmas
use Rattle.message_report.proofs.picture.push_monochrome.Goals as goal

pub returns-clause-ok : goal.returns-clause-ok
returns-clause-ok c =
    let sign = c.args.sign.now in
    let octets = c.args.checked.now.source.octets in
    let plane = c.show.new.plane in
    let rows = PageLemmas.monochrome_pictured sign octets c.args.page c.args.phase plane c.requires.monochrome
    (lights_by sign c.args.checked.now.sign octets octets c.args.page c.args.phase 1 plane c.requires.sign refl c.show.ensures.drawn)
    (c.show.ensures.size.0 ∙ c.in-Ok.ensures.width ∙ c.width.ensures.width, c.show.ensures.size.1 ∙ c.in-Ok.ensures.height ∙ c.height.ensures.height) in
    subst (λ l. OnOk c.push_lit.result (c.push_lit.new.text ≡ c.args.text.now ++ l)) rows c.push_lit.ensures
