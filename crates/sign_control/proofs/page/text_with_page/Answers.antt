use Rattle.std.proofs.Common.{◌<◌, ◌≤◌, ◌^◌, length, ap, subst, arith, List, ℕ}
use Rattle.multi_meaning.specs.Meaning.{meanings}
use Rattle.multi_meaning.specs.Verdict.{pages_of}
use Rattle.multi_meaning.proofs.VerdictLemmas.{accepted_is}
use Rattle.sign_control.proofs.page.text_with_page.Goals as goal

pub returns-then-page-pages-clause-found : goal.returns-then-page-pages-clause-found
returns-then-page-pages-clause-found c =
    let checked = c.in-Ok.checked in
    let octets = c.in-Ok.ensures.kept.1 in
    let short : length c.args.text.now < 2 ^ 32 = omega (arith, c.if-text-gt-MAX_TEXT.false) in
    let (pages, is) = accepted_is checked.sign checked.source.octets c.pages.result c.pages.ensures (omega (arith, short, ap length octets)) in
    let below : c.args.page < pages_of (meanings checked.source.octets) = omega (arith, is, c.if-page-pages.true) in
    ((short, c.in-Ok.ensures.accepted), subst (λ (l : List ℕ). c.args.page < pages_of (meanings l)) octets below)

pub returns-else-page-pages-clause-missing : goal.returns-else-page-pages-clause-missing
returns-else-page-pages-clause-missing c =
    let checked = c.in-Ok.checked in
    let octets = c.in-Ok.ensures.kept.1 in
    let short : length c.args.text.now < 2 ^ 32 = omega (arith, c.if-text-gt-MAX_TEXT.false) in
    let (pages, is) = accepted_is checked.sign checked.source.octets c.pages.result c.pages.ensures (omega (arith, short, ap length octets)) in
    let few : pages_of (meanings checked.source.octets) ≤ c.args.page = omega (arith, is, c.if-page-pages.false) in
    ((short, c.in-Ok.ensures.accepted), subst (λ (l : List ℕ). pages_of (meanings l) ≤ c.args.page) octets few)
