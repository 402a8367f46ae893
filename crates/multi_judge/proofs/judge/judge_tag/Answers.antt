use Rattle.multi_judge.proofs.Lemmas.{◌≡◌, false, true, rectangle, Attributes, judged-rectangle, state-rectangle, ◌+◌, ◌<◌, ◌≤◌, arith, rules, lt-ltb, le-ltb, SignData, judged-page, state-page, None, Option, Some, cond, ℕ, not, subst, ap, refl, sym, ◌∙◌, le-leb, lt-leb, spots, standing, judged-simple, simple_of, break_judged, line_end, page_here, placed_conflict, spot_of, cases_Bool, is_inside, IsSmall}
use Rattle.multi_judge.proofs.judge.judge_tag.Goals as goal

pub returns-then-not-put_break-clause-judged : goal.returns-then-not-put_break-clause-judged
returns-then-not-put_break-clause-judged c = λ items st held.
    let sign = c.args.sign.now in
    let gap = c.in-NewLine.gap in
    rw c.in-NewLine.is (placed_conflict sign items (line_end gap) tt
    (sym (c.put_break.ensures.conflicts (spots sign items) (spot_of sign items (line_end gap)) st.area refl (page_here sign items c.args.state.now st)) ∙ ap not c.if-not-put_break.true))

pub returns-then-state-clause-judged : goal.returns-then-state-clause-judged
returns-then-state-clause-judged c = λ items st held.
    let new = c.put_break.new.self in
    let added = c.put_break.ensures.added c.if-not-put_break.false in
    let (limited, fits) = held (rw c.in-NewLine.is refl) in
    let (size, behind) = break_judged c.args.sign.now items c.args.state.now st new added.same fits limited c.in-NewLine.gap added (not c.put_break.result) c.put_break.ensures.conflicts (ap not c.if-not-put_break.false) in
    rw c.in-NewLine.is (size ∙ ap {B = Option ℕ} (λ b. cond b None (Some 5)) (le-leb new.area.group.closed new.limits.height c.if-state.true), behind)

pub returns-else-state-clause-judged : goal.returns-else-state-clause-judged
returns-else-state-clause-judged c = λ items st held.
    let new = c.put_break.new.self in
    let added = c.put_break.ensures.added c.if-not-put_break.false in
    let (limited, fits) = held (rw c.in-NewLine.is refl) in
    let (size, behind) = break_judged c.args.sign.now items c.args.state.now st new added.same fits limited c.in-NewLine.gap added (not c.put_break.result) c.put_break.ensures.conflicts (ap not c.if-not-put_break.false) in
    rw c.in-NewLine.is (size ∙ ap {B = Option ℕ} (λ b. cond b None (Some 5)) (lt-leb new.area.group.closed new.limits.height c.if-state.false))

pub returns-in_default-clause-judged : goal.returns-in_default-clause-judged
returns-in_default-clause-judged c = λ items st held.
    let sign = c.args.sign.now in
    let simple = simple_of c.args.tag c.in_default.not-NewPage c.in_default.not-NewLine c.in_default.not-Font c.in_default.not-Rect in
    let after = c.set.ensures.set (standing sign items) st.attributes simple in
    judged-simple sign items c.args.state.now st c.set.new.self c.args.tag simple after c.set.ensures.rectangle

pub returns-then-state-max_pages-clause-judged : goal.returns-then-state-max_pages-clause-judged
returns-then-state-max_pages-clause-judged c = λ items st held.
    let full : c.args.sign.now.max_pages < c.args.state.now.pages + 1 = omega (arith, c.max_pages.ensures.max_pages, ap (λ (s : SignData). s.max_pages) c.sign.view_is) in
    rw c.in-NewPage.is (judged-page c.args.sign.now items c.args.state.now st ∙ ap (λ b. cond {A = Option ℕ} b (Some 12) None) (lt-ltb c.args.sign.now.max_pages (c.args.state.now.pages + 1) full))

pub returns-else-state-max_pages-clause-judged : goal.returns-else-state-max_pages-clause-judged
returns-else-state-max_pages-clause-judged c = λ items st held.
    let room : c.args.state.now.pages + 1 ≤ c.args.sign.now.max_pages = omega (arith, c.max_pages.ensures.max_pages, ap (λ (s : SignData). s.max_pages) c.sign.view_is) in
    let small = subst (λ (a : Attributes). IsSmall a.rectangle) c.sign.invariant.3 c.sign.invariant.4 in
    rw c.in-NewPage.is (
      judged-page c.args.sign.now items c.args.state.now st ∙ ap (λ b. cond {A = Option ℕ} b (Some 12) None) (le-ltb c.args.sign.now.max_pages (c.args.state.now.pages + 1) room),
      state-page c.args.sign.now items c.args.state.now st _ refl (omega (arith, c.from.ensures, c.from-in-NewPage.ensures)) (rw (c.sign.invariant.3, ← c.sign.view_is) refl) (search rules) (omega arith) (omega arith) (rw (← c.sign.view_is) small),
    )

pub returns-in_default-rectangle-clause-judged : goal.returns-in_default-rectangle-clause-judged
returns-in_default-rectangle-clause-judged c = λ items st held.
    let outside : is_inside c.args.sign.now c.in-Rect.x c.in-Rect.y c.in-Rect.w c.in-Rect.h ≡ false = search (rules, cases_Bool) in
    rw c.in-Rect.is (judged-rectangle c.args.sign.now items c.args.state.now st c.in-Rect.x c.in-Rect.y c.in-Rect.w c.in-Rect.h ∙ ap (λ b. cond {A = Option ℕ} b None (Some 4)) outside)

pub returns-in-Some-clause-judged : goal.returns-in-Some-clause-judged
returns-in-Some-clause-judged c = λ items st held.
    let sign = c.args.sign.now in
    let x = c.in-Rect.x in
    let y = c.in-Rect.y in
    let w = c.in-Rect.w in
    let h = c.in-Rect.h in
    let inside : is_inside sign x y w h ≡ true = search (rules, cases_Bool) in
    let is : c.in-Some.inside ≡ rectangle sign x y w h = search (rules, cases_Bool) in
    rw c.in-Rect.is (
      judged-rectangle sign items c.args.state.now st x y w h ∙ ap (λ b. cond {A = Option ℕ} b None (Some 4)) inside,
      state-rectangle sign items c.args.state.now _ x y w h st refl refl (rw is (ap (λ (a : Attributes). let b : Attributes = record a { rectangle = rectangle sign x y w h } in b) st.attributes)) (search rules) (search (rules, c.rectangle.ensures.small)),
    )
