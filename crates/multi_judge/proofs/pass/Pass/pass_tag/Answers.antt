use Rattle.multi_judge.proofs.Lemmas.{◌≡◌, ◌==◌, ◌∙◌, Ok, true, false, not, refl, sym, common_steps, rules, arith, begins_line, is_false, is_true, ends_not, false≢true, tag_begun, tag_ends, tag_judged, tag_kept, tag_refused, err_from_is_err_and, Option, ℕ, Tag, NewPage, NewLine, Rect}
use Rattle.multi_judge.proofs.pass.Pass.pass_tag.Goals as goal

-- each tag but these begins no line
begins_not : (tag : Tag) → (tag ≡ NewPage → ⊥) → ((gap : Option ℕ) → tag ≡ NewLine gap → ⊥) → ((x y w h : ℕ) → tag ≡ Rect x y w h → ⊥) → begins_line tag ≡ false
begins_not tag page line rect = search rules

pub returns-in_err-judge_tag-clause-judged : goal.returns-in_err-judge_tag-clause-judged
returns-in_err-judge_tag-clause-judged g c = λ items of.
    let p = err_from_is_err_and c.from_residual.result c.from_residual.ensures.1 in
    rw (p.1, p.2) (tag_refused (not (g.row.WORDS == 0)) c.args.sign.now items c.args.self.now c.args.tag c.in_err-judge_tag.field-0.0 c.judge_tag.new.state of c.in_err-judge_tag.ensures.judged)

pub returns-then-matches-clause-judged : goal.returns-then-matches-clause-judged
returns-then-matches-clause-judged g c = λ items of.
    let words = not (g.row.WORDS == 0) in
    let old = c.args.self.now in
    let tag = c.args.tag in
    let begins : begins_line tag ≡ true = first_of (search (rules), grind (arith, common_steps)) in
    let (fine, of') = tag_begun words c.args.sign.now items old tag (Ok tt) c.judge_tag.new.state of c.in_ok-judge_tag.ensures.limited c.in_ok-judge_tag.ensures.judged (is_true g.row.WORDS c.if-this-ne0.true) begins in
    (elim c.match-tag.branch [
      | goal.in-NewLine w ↦ rw w.ended-is (tag_ends words c.args.sign.now items old _ tag of fine of' (rw w.in-NewLine.is refl) w.group_for.result w.group_for.ensures.sum)
      | goal.in_default w ↦ rw w.ended-is (tag_judged words c.args.sign.now items old _ tag of fine of' (ends_not tag w.in_default.not-NewLine))
    ])

pub returns-else-this-ne0-clause-judged : goal.returns-else-this-ne0-clause-judged
returns-else-this-ne0-clause-judged g c = λ items of.
    let words = not (g.row.WORDS == 0) in
    let old = c.args.self.now in
    let tag = c.args.tag in
    let stays : words ≡ true → begins_line tag ≡ false = λ w. elim c.else-this-ne0.branch [
      | goal.else-this-ne0-via-then-this-ne0+else-matches v ↦ elim v.match-matches.branch [
        | goal.in-NewPage u ↦ absurd (false≢true (sym v.if-matches.false ∙ u.matches-is))
        | goal.in_default-matches u ↦ begins_not tag u.in_default-matches.not-NewPage u.in_default-matches.not-NewLine u.in_default-matches.not-Rect
      ]
      | goal.else-this-ne0-via-else-this-ne0 v ↦ absurd (false≢true (sym (is_false g.row.WORDS v.if-this-ne0.false) ∙ w))
    ] in
    let (fine, of') = tag_kept words c.args.sign.now items old tag (Ok tt) c.judge_tag.new.state of c.in_ok-judge_tag.ensures.limited c.in_ok-judge_tag.ensures.judged stays in
    (elim c.match-tag.branch [
      | goal.in-NewLine w ↦ rw w.ended-is (tag_ends words c.args.sign.now items old _ tag of fine of' (rw w.in-NewLine.is refl) w.group_for.result w.group_for.ensures.sum)
      | goal.in_default w ↦ rw w.ended-is (tag_judged words c.args.sign.now items old _ tag of fine of' (ends_not tag w.in_default.not-NewLine))
    ])
