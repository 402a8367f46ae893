use Rattle.std.proofs.Common.{◌<◌, ◌^◌, length, ap, ◌∙◌, arith}
use Rattle.multi_token.specs.Counted.{Counted}
use Rattle.multi_meaning.proofs.VerdictLemmas.{accepted_is}
use Rattle.message_words.proofs.sight.Sight.colours.Goals as goal

pub new-requires-3-clause-page : goal.new-requires-3-clause-page
new-requires-3-clause-page c =
    let string = c.in-Ok.checked in
    let same = c.in-Ok.ensures.kept.1 ∙ ap (λ (s : Counted). s.octets) c.new-2.ensures in
    let count = ap length same in
    let short : length string.source.octets < 2 ^ 32 = omega (arith, c.if-octets-gt-LONGEST.false, count) in
    let pages = (accepted_is string.sign string.source.octets c.pages.result c.pages.ensures short).1 in
    omega (arith, c.if-page-pages.false, pages)
