use Rattle.std.proofs.Common.{arith}
use Rattle.page_picture.proofs.ShownLemmas
use Rattle.message_picture.proofs.MomentLemmas
use Rattle.message_picture.proofs.draw.seen_at.Goals as goal

pub returns-then-page-pages-clause-missing : goal.returns-then-page-pages-clause-missing
returns-then-page-pages-clause-missing c =
    let checked = c.args.checked.now in
    MomentLemmas.no_page checked.sign checked.source.octets c.args.moment c.pages-pages.result c.in-Page.page c.in-Page.phase c.requires c.pages-pages.ensures c.in-Page.is (omega (arith, c.if-page-pages.true))

pub returns-else-page-pages-clause-there : goal.returns-else-page-pages-clause-there
returns-else-page-pages-clause-there c =
    let checked = c.args.checked.now in
    MomentLemmas.has_page checked.sign checked.source.octets c.pages-pages.result c.in-Page.page c.requires c.pages-pages.ensures (omega (arith, c.if-page-pages.false))

pub returns-in-Clock-clause-there : goal.returns-in-Clock-clause-there
returns-in-Clock-clause-there c =
    let checked = c.args.checked.now in
    ShownLemmas.there_at checked.sign checked.source.octets c.in-Clock.clock c.locate.result c.locate.ensures.shown
