use Rattle.std.proofs.Common.{◌≡◌, [], ◌∷◌, ◌++◌, sym, ap, ◌∙◌, get_or, map, take, arith, subst, rules}
use Rattle.std.proofs.lemmas.List.{map-append, take_all}
use Rattle.serde_json.specs.View.{view}
use Rattle.serde_json.specs.declared.value.Value.{the_lemmas}
use Rattle.multi_meaning.specs.Meaning.{meanings}
use Rattle.multi_meaning.specs.Times.{page_times}
use Rattle.multi_meaning.specs.Verdict.{pages_of}
use Rattle.multi_meaning.proofs.TimesLemmas.{times_count}
use Rattle.message_words.specs.PageTimes.{AreTimes, times_data}
use Rattle.message_report.specs.Pictures.{page_text}
use Rattle.message_report.specs.Records.{page_data, page_record, pages_from, picture_data}
use Rattle.message_report.proofs.ExplanationLemmas
use Rattle.message_report.proofs.RecordLemmas
use Rattle.message_report.proofs.record.page_values.Goals as goal

pub picture_value-requires-clause-page : goal.picture_value-requires-clause-page
picture_value-requires-clause-page c =
    let string = c.args.checked.now in
    let pages = ExplanationLemmas.pages_are string.sign string.source.octets c.pages-pages.result c.pages-pages.ensures c.requires.short in
    let here = ap (λ l. pages_of (meanings l)) c.loop-page.invariant.2 in
    omega (arith, c.loop-page-test.true, pages, here)

pub index-times-requires : goal.index-times-requires
index-times-requires c =
    let string = c.args.checked.now in
    let message = c.args.message.now in
    let pages = ExplanationLemmas.pages_are string.sign string.source.octets c.pages-pages.result c.pages-pages.ensures c.requires.short in
    let are = subst (λ l. AreTimes message.sign.now l c.in_ok-all.all.items) (sym c.requires.octets) c.in_ok-all.ensures in
    let count = RecordLemmas.times_counted message.sign.now string.source.octets c.in_ok-all.all.items are in
    omega (arith, c.loop-page-test.true, pages, count, c.from.ensures)

pub loop-page-preserved : goal.loop-page-preserved
loop-page-preserved c =
    let telling = c.args.message.now.telling in
    let sign = c.args.message.now.sign.now in
    let octets = c.args.checked.now.source.octets in
    let page = c.loop-page.page in
    let list = c.loop-page.list.items in
    let value = c.in_ok-value.value in
    let all = c.in_ok-all.all.items in
    let times = c.index-times.result.now in
    let string = c.args.checked.now in
    let pages = ExplanationLemmas.pages_are string.sign octets c.pages-pages.result c.pages-pages.ensures c.requires.short in
    let are = subst (λ l. AreTimes sign l all) (sym c.requires.octets) c.in_ok-all.ensures in
    let count = RecordLemmas.times_counted sign octets all are in
    let own = c.index-times.ensures ∙ ap (λ n. get_or all n times) c.from.ensures in
    let more = RecordLemmas.one_page_more telling sign octets all page times are (omega (arith, c.loop-page-test.true, pages, count)) own in
    let (so_far, same_sign, same_octets) = c.loop-page.invariant in
    let picture = c.in_ok-picture.ensures.ok ∙ ap (λ l. picture_data telling.pictures (page_text sign l page telling.phase)) same_octets in
    let shown : view value ≡ page_data telling sign octets page (times_data times) = c.in_ok-value.ensures ∙ ap (page_record page times.on times.off) picture in
    let is : map view c.push.new.self.items ≡ map view list ++ view value ∷ [] = ap (map view) c.in_ok-push.ensures.items ∙ map-append view list (value ∷ []) in
    let next = is ∙ ap (λ d. map view list ++ d ∷ []) shown ∙ ap (λ l. l ++ page_data telling sign octets page (times_data times) ∷ []) so_far ∙ sym more in
    (next, c.in_ok-picture.ensures.kept.0 ∙ same_sign, c.in_ok-picture.ensures.kept.1 ∙ same_octets)

pub returns : goal.returns
returns c =
    let string = c.args.checked.now in
    let message = c.args.message.now in
    let records = map view c.loop-page.list.items in
    let times = page_times message.sign.now (meanings string.source.octets) in
    let pages = ExplanationLemmas.pages_are string.sign string.source.octets c.pages-pages.result c.pages-pages.ensures c.requires.short in
    let count = times_count message.sign.now (meanings string.source.octets) in
    let last : c.loop-page.page ≡ c.pages-pages.result = omega (arith, c.loop-page-test.false, c.loop-page.auto.page-end) in
    let whole : take c.loop-page.page times ≡ times = take_all c.loop-page.page times (omega (arith, last, pages, count)) in
    let all = c.loop-page.invariant.0 ∙ ap (pages_from message.telling message.sign.now string.source.octets 0) whole in
    search (rules, the_lemmas)
