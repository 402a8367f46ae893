use Rattle.std.proofs.Common.{◌≡◌, ◌<◌, ◌∷◌, ◌++◌, ap, ◌∙◌, arith, subst}
use Rattle.multi_meaning.specs.Meaning.{meanings}
use Rattle.multi_meaning.specs.Verdict.{pages_of}
use Rattle.multi_layout.specs.Pages.{IsSized, page_count}
use Rattle.message_report.specs.Explanation.{HasPages, picture_text}
use Rattle.message_report.specs.Phrases.{head_text}
use Rattle.message_report.specs.declared.picture.Picture.TheVariants.{Marks}
use Rattle.message_report.proofs.ExplanationLemmas
use Rattle.message_report.proofs.PageLemmas
use Rattle.message_report.proofs.pages.push_lit_pages.Goals as goal

pub draw_next-requires : goal.draw_next-requires
draw_next-requires c =
    let string = c.args.checked.now in
    let (has, same_sign, same_octets, next, size) = c.loop-page.invariant in
    let pages = ExplanationLemmas.pages_are string.sign string.source.octets c.pages-pages.result c.pages-pages.ensures c.requires.short in
    let here = ap (λ l. pages_of (meanings l)) same_octets in
    let more : c.loop-page.page < page_count c.loop-page.checked = omega (arith, c.loop-page-test.true, pages, here) in
    record { page = (c.loop-page.page, more, next); size = rw same_sign size }

pub returns : goal.returns
returns c =
    let string = c.args.checked.now in
    let message = c.args.message.now in
    let picture = picture_text Marks message.sign.now string.source.octets message.telling.phase in
    let pages = ExplanationLemmas.pages_are string.sign string.source.octets c.pages-pages.result c.pages-pages.ensures c.requires.short in
    let (shown, so_far, has) = c.loop-page.invariant.0 in
    let last : c.loop-page.page ≡ c.pages-pages.result = omega (arith, c.loop-page-test.false, c.loop-page.auto.page-end) in
    let all : HasPages picture c.pages-pages.result c.pages-pages.result shown = subst (λ n. HasPages picture c.pages-pages.result n shown) last has in
    (shown, so_far, subst (λ n. HasPages picture n n shown) pages all)

pub loop-page-preserved : goal.loop-page-preserved
loop-page-preserved c =
    let message = c.args.message.now in
    let sign = message.sign.now in
    let string = c.args.checked.now in
    let here = c.loop-page.checked in
    let octets = string.source.octets in
    let picture = picture_text Marks sign octets message.telling.phase in
    let page = c.loop-page.page in
    let pages = c.pages-pages.result in
    let ((shown, so_far, has), same_sign, same_octets, next, size) = c.loop-page.invariant in
    let (words, line, second) = c.in_ok-push_times.ensures in
    let e = c.draw_next.ensures in
    let count = ExplanationLemmas.pages_are string.sign octets pages c.pages-pages.ensures c.requires.short in
    let more : page < page_count here = omega (arith, c.loop-page-test.true, count, ap (λ l. pages_of (meanings l)) same_octets) in
    let sized : IsSized c.draw_next.new.plane sign = (e.size.0 ∙ size.0 ∙ ap (λ s. s.width) c.requires.sign, e.size.1 ∙ size.1 ∙ ap (λ s. s.height) c.requires.sign) in
    let rows = PageLemmas.next_pictured sign here.sign octets here.source.octets page message.telling.phase c.draw_next.new.plane c.requires.monochrome (same_sign ∙ c.requires.sign) same_octets (e.drawn page more next) sized in
    let third = c.in_ok-push_lit.ensures ∙ ap (λ l. c.push_times.new.text ++ l) rows in
    let all = ExplanationLemmas.three_more c.args.text.now c.loop-page.text c.push_head.new.text c.push_times.new.text c.push_lit.new.text shown (head_text page pages) words (picture page) so_far c.in_ok-push_head.ensures second third in
    let octets_kept = ap (λ s. s.octets) e.steps.3 in
    ((shown ++ head_text page pages ++ words ++ 10 ∷ picture page, all, ExplanationLemmas.pages_more picture pages page shown words has line), e.kept ∙ same_sign, octets_kept ∙ same_octets, e.next page next, (e.size.0 ∙ size.0, e.size.1 ∙ size.1))
