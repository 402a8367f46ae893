use Rattle.std.proofs.Common.{◌≡◌, ◌++◌, ◌∙◌, OnOk, ap, subst, sym}
use Rattle.page_picture.specs.Palette.{palette}
use Rattle.message_report.specs.Explanation.{picture_text}
use Rattle.message_report.proofs.BlockLemmas
use Rattle.message_report.proofs.PageLemmas
use Rattle.message_report.proofs.picture.push_picture.Goals as goal

pub returns-in-Marks-picture-clause-ok : goal.returns-in-Marks-picture-clause-ok
returns-in-Marks-picture-clause-ok c =
    let sign = c.args.sign.now in
    let octets = c.args.checked.now.source.octets in
    let rows = PageLemmas.pictured sign octets c.args.page c.args.phase c.in_ok-colours.colours c.in_ok-colours.ensures.page in
    let drawn = rows ∙ ap (λ p. picture_text p sign octets c.args.phase c.args.page) (sym c.in-Marks-picture.is) in
    subst (λ l. OnOk c.push_rows.result (c.push_rows.new.text ≡ c.args.text.now ++ l)) drawn c.push_rows.ensures

pub returns-clause-ok : goal.returns-clause-ok
returns-clause-ok c =
    let sign = c.args.sign.now in
    let octets = c.args.checked.now.source.octets in
    let shine = c.deref.ensures.value ∙ c.in_ok-shares-in-Blocks.ensures.shares ∙ ap palette c.classic-in-Blocks.ensures.classic in
    let lines = BlockLemmas.pictured sign octets c.args.page c.args.phase c.in_ok-colours.colours c.deref.result.now c.in_ok-colours.ensures.page shine in
    let drawn = lines ∙ ap (λ p. picture_text p sign octets c.args.phase c.args.page) (sym c.in-Blocks.is) in
    subst (λ l. OnOk c.push_lines.result (c.push_lines.new.text ≡ c.args.text.now ++ l)) drawn c.push_lines.ensures
