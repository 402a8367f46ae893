use Rattle.std.proofs.Common.{◌≡◌, ◌+◌, ◌++◌, Global, Vec, ℕ, [], ap, append-nil, sym, ◌∙◌, drop, get_or, map, arith}
use Rattle.message_words.specs.PageTimes.{times_data}
use Rattle.message_words.specs.OnPages.{is_short, place_first, short_places}
use Rattle.message_words.proofs.WarnedLemmas
use Rattle.message_words.proofs.pages.short_places.Goals.{then-is_short+in_ok-push, else-is_short}
use Rattle.message_words.proofs.pages.short_places.Goals as goal

pub loop-page-preserved : goal.loop-page-preserved
loop-page-preserved c =
    let times = c.args.times.now in
    let pages = c.args.pages.now in
    let i = c.loop-page.page in
    let old = c.loop-page.places.items in
    let one = get_or times i (record { on = 0; off = 0 }) in
    let page = get_or pages i (record { begin = 0; letters = 0 }) in
    let below = c.loop-page-test.true in
    let least = c.min-count.ensures in
    let more = WarnedLemmas.page_more times pages i (record { on = 0; off = 0 }) (record { begin = 0; letters = 0 }) old (omega (arith, least, below)) (omega (arith, least, below)) in
    let now : c.if-is_short.places.items ≡ old ++ place_first (is_short one.on page.letters) page.begin [] = elim c.if-is_short.branch [
      | then-is_short+in_ok-push w ↦ ap (λ (v : Vec ℕ Global). v.items) w.places-is ∙ w.in_ok-push.ensures.items ∙ ap (λ b. old ++ place_first b page.begin []) (sym (sym c.is_short.ensures ∙ w.if-is_short.true))
      | else-is_short w ↦ ap (λ (v : Vec ℕ Global). v.items) w.places-is ∙ sym (append-nil old) ∙ ap (λ b. old ++ place_first b page.begin []) (sym (sym c.is_short.ensures ∙ w.if-is_short.false))
    ] in
    c.loop-page.invariant ∙ more ∙ ap (λ l. l ++ short_places (drop (i + 1) (map times_data times)) (drop (i + 1) pages)) (sym now)

pub returns : goal.returns
returns c = WarnedLemmas.short_all c.args.times.now c.args.pages.now c.loop-page.page c.loop-page.places.items (omega (arith, c.min-count.ensures, c.loop-page-test.false)) c.loop-page.invariant
