use Rattle.std.proofs.Common.{◌≡◌, ◌∷◌, ◌++◌, ap, ◌∙◌, arith, subst}
use Rattle.multi_meaning.specs.Meaning.{meanings}
use Rattle.multi_meaning.specs.Verdict.{pages_of}
use Rattle.message_report.specs.Explanation.{HasPages, picture_text}
use Rattle.message_report.specs.Phrases.{head_text}
use Rattle.message_report.proofs.ExplanationLemmas
use Rattle.message_report.proofs.pages.push_drawn_pages.Goals as goal

pub push_picture-requires-clause-page : goal.push_picture-requires-clause-page
push_picture-requires-clause-page c =
    let string = c.args.checked.now in
    let pages = ExplanationLemmas.pages_are string.sign string.source.octets c.pages-pages.result c.pages-pages.ensures c.requires.short in
    let here = ap (λ l. pages_of (meanings l)) c.loop-page.invariant.2 in
    omega (arith, c.loop-page-test.true, pages, here)

pub loop-page-preserved : goal.loop-page-preserved
loop-page-preserved c =
    let message = c.args.message.now in
    let octets = c.args.checked.now.source.octets in
    let picture = picture_text c.args.picture message.sign.now octets message.telling.phase in
    let page = c.loop-page.page in
    let pages = c.pages-pages.result in
    let ((shown, so_far, has), same_sign, same_octets) = c.loop-page.invariant in
    let (words, line, second) = c.in_ok-push_times.ensures in
    let third = c.in_ok-push_picture.ensures.ok ∙ ap (λ l. c.push_times.new.text ++ picture_text c.args.picture message.sign.now l message.telling.phase page) same_octets in
    let all = ExplanationLemmas.three_more c.args.text.now c.loop-page.text c.push_head.new.text c.push_times.new.text c.push_picture.new.text shown (head_text page pages) words (picture page) so_far c.in_ok-push_head.ensures second third in
    ((shown ++ head_text page pages ++ words ++ 10 ∷ picture page, all, ExplanationLemmas.pages_more picture pages page shown words has line), c.in_ok-push_picture.ensures.kept.0 ∙ same_sign, c.in_ok-push_picture.ensures.kept.1 ∙ same_octets)

pub returns : goal.returns
returns c =
    let string = c.args.checked.now in
    let message = c.args.message.now in
    let picture = picture_text c.args.picture message.sign.now string.source.octets message.telling.phase in
    let pages = ExplanationLemmas.pages_are string.sign string.source.octets c.pages-pages.result c.pages-pages.ensures c.requires.short in
    let (shown, so_far, has) = c.loop-page.invariant.0 in
    let last : c.loop-page.page ≡ c.pages-pages.result = omega (arith, c.loop-page-test.false, c.loop-page.auto.page-end) in
    let all : HasPages picture c.pages-pages.result c.pages-pages.result shown = subst (λ n. HasPages picture c.pages-pages.result n shown) last has in
    (shown, so_far, subst (λ n. HasPages picture n n shown) pages all)
