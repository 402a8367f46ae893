use Rattle.std.proofs.Common.{◌<◌, ◌≤◌, arith, refl}
use Rattle.multi_meaning.specs.Meaning.{meanings}
use Rattle.multi_meaning.specs.Verdict.{pages_of}
use Rattle.multi_meaning.proofs.VerdictLemmas.{accepted_is}
use Rattle.page_picture.proofs.ShownLemmas.{there_at}
use Rattle.latsefur_c.proofs.seen.seen.Goals as goal

pub returns-in-Clock-clause-some : goal.returns-in-Clock-clause-some
returns-in-Clock-clause-some c =
    let string = c.args.checked.now in
    rw c.in-Clock.is (c.locate.ensures.shown, there_at string.sign string.source.octets c.in-Clock.clock c.locate.result c.locate.ensures.shown, tt)

pub returns-then-page-pages-clause-some : goal.returns-then-page-pages-clause-some
returns-then-page-pages-clause-some c =
    let string = c.args.checked.now in
    let (pages, is) = accepted_is string.sign string.source.octets c.pages.result c.pages.ensures c.requires.short in
    let below : c.in-Page.page < pages_of (meanings string.source.octets) = omega (arith, is, c.if-page-pages.true) in
    rw c.in-Page.is (refl, below, below)

pub returns-else-page-pages-clause-none : goal.returns-else-page-pages-clause-none
returns-else-page-pages-clause-none c =
    let string = c.args.checked.now in
    let (pages, is) = accepted_is string.sign string.source.octets c.pages.result c.pages.ensures c.requires.short in
    let below : pages_of (meanings string.source.octets) ≤ c.in-Page.page = omega (arith, is, c.if-page-pages.false) in
    rw c.in-Page.is (λ none. below)
