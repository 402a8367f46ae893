use Rattle.std.proofs.Common.{◌≡◌, ℕ, ◌+◌, ◌∷◌, ◌++◌, true, false, [], None, cond, get_or, sym, ap, ◌∙◌, take, arith}
use Rattle.message_words.specs.OnItems.{is_letter, is_page}
use Rattle.message_words.specs.OnPages.{ended_pages, page_after}
use Rattle.message_words.specs.declared.pages.PageText.{PageText}
use Rattle.message_words.specs.declared.said.Said.{Said}
use Rattle.message_words.proofs.OnPagesLemmas
use Rattle.message_words.proofs.pages.page_texts.Goals.{then-is_page+in_ok-push, else-is_page+then-is_letter, else-is_page+else-is_letter}
use Rattle.message_words.proofs.pages.page_texts.Goals as goal

pub loop-one-preserved : goal.loop-one-preserved
loop-one-preserved c =
    let h = c.loop-one.invariant in
    let said = c.args.said.now in
    let i = c.loop-one.one-index in
    let none : Said = record { at = 0; end = 0; tag = None } in
    let one = get_or said i none in
    let below = c.loop-one-test.true in
    let ended = OnPagesLemmas.ended_more said i none below in
    let after = OnPagesLemmas.page_more_items said i none below in
    let old = c.loop-one.pages.items in
    let here : PageText = record { begin = c.loop-one.begin; letters = c.loop-one.letters } in
    let before = take i said in
    let goes_on : (count : ℕ) → cond (is_letter one.tag) 1 0 ≡ count → is_page one.tag ≡ false → record { begin = c.loop-one.begin; letters = c.loop-one.letters + count } ≡ page_after (take (i + 1) said) = λ count letter is.
    ap (λ n. record { begin = c.loop-one.begin; letters = c.loop-one.letters + n }) (sym letter) ∙ ap (λ (p : PageText). record { begin = p.begin; letters = p.letters + cond (is_letter one.tag) 1 0 }) h.here
    ∙ ap (λ b. cond b (record { begin = one.end; letters = 0 }) (record { begin = (page_after before).begin; letters = (page_after before).letters + cond (is_letter one.tag) 1 0 })) (sym is) ∙ sym after in
    elim c.if-is_page.branch [
      | then-is_page+in_ok-push w ↦
          let is : is_page one.tag ≡ true = sym c.is_page.ensures ∙ w.if-is_page.true in
          rw (w.pages-is, w.begin-is, w.letters-is) (record {
            ended = w.in_ok-push.ensures.items ∙ ap (λ l. l ++ here ∷ []) h.ended ∙ ap (λ (p : PageText). ended_pages before ++ p ∷ []) h.here
                ∙ ap (λ b. cond b (ended_pages before ++ page_after before ∷ []) (ended_pages before)) (sym is) ∙ sym ended;
            here = ap (λ b. cond b (record { begin = one.end; letters = 0 }) (record { begin = (page_after before).begin; letters = (page_after before).letters + cond (is_letter one.tag) 1 0 })) (sym is) ∙ sym after;
            few = omega arith;
          })
      | else-is_page+then-is_letter w ↦
          let is : is_page one.tag ≡ false = sym c.is_page.ensures ∙ w.if-is_page.false in
          let letter : is_letter one.tag ≡ true = sym w.is_letter.ensures ∙ w.if-is_letter.true in
          let few = h.few in
          rw (w.pages-is, w.begin-is, w.letters-is) (record {
            ended = h.ended ∙ ap (λ b. cond b (ended_pages before ++ page_after before ∷ []) (ended_pages before)) (sym is) ∙ sym ended;
            here = goes_on 1 (ap (λ b. cond b 1 0) letter) is;
            few = omega (arith, few);
          })
      | else-is_page+else-is_letter w ↦
          let is : is_page one.tag ≡ false = sym c.is_page.ensures ∙ w.if-is_page.false in
          let letter : is_letter one.tag ≡ false = sym w.is_letter.ensures ∙ w.if-is_letter.false in
          let few = h.few in
          rw (w.pages-is, w.begin-is, w.letters-is) (record {
            ended = h.ended ∙ ap (λ b. cond b (ended_pages before ++ page_after before ∷ []) (ended_pages before)) (sym is) ∙ sym ended;
            here = ap (λ n. record { begin = c.loop-one.begin; letters = n }) (omega arith) ∙ goes_on 0 (ap (λ b. cond b 1 0) letter) is;
            few = omega (arith, few);
          })
    ]
