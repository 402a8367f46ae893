use Rattle.multi_layout.proofs.Common.{◌≡◌, ℕ, refl, [], ◌∷◌, ◌++◌, not, Option, Some, None, sym, ap, subst, ◌∙◌, not-false, false, false≢true, NewLine, Off, Tag, code_of, Does, Meaning, has_place, unsized_offence, meant_by, IsStateOf, state-limits, break-accepted, break-free}
use Rattle.multi_meaning.proofs.StandingLemmas.{sized}
use Rattle.multi_layout.proofs.cursor.Cursor.pass_tag.Goals as goal

-- a tag that places nothing
places_none : (tag : Tag) → ((gap : Option ℕ) → tag ≡ NewLine gap → ⊥) → has_place (Does tag) ≡ false
places_none (NewLine gap) other = absurd (other gap refl)
places_none tag other = refl

pub returns-in-NewLine-clause-passed : goal.returns-in-NewLine-clause-passed
returns-in-NewLine-clause-passed c = λ items st fine.
    let sign = c.args.sign.now in
    let state = c.args.self.now.state in
    let gap = c.in-NewLine.gap in
    let is = ap meant_by c.in-Tag.is ∙ ap Does c.in-NewLine.is in
    let fine' = ap (unsized_offence sign items) (sym is) ∙ fine in
    let new = c.put_break.new.self in
    let free = break-free sign items state st gap (not c.put_break.result) c.put_break.ensures.conflicts fine' in
    let added = c.put_break.ensures.added (not-false c.put_break.result free) in
    subst (λ (m : Meaning). IsStateOf sign (items ++ m ∷ []) new) (sym is)
    (state-limits sign (items ++ Does (NewLine gap) ∷ []) state new added.same (break-accepted sign items state st gap new.area added.sum fine'))

pub unreachable-requires-in_default-judge_tag : goal.unreachable-requires-in_default-judge_tag
unreachable-requires-in_default-judge_tag c =
    let sign = c.args.sign.now in
    let (items, st, fine) = c.requires.fine in
    let none = places_none c.in-Tag.tag c.in_default-tag.not-NewLine in
    let offends = c.in_default-judge_tag.ensures.judged items st (λ placed. absurd (false≢true (sym none ∙ placed))) in
    let wrong : ◌≡◌ {A = Option ℕ} (Some (code_of c.in_default-judge_tag.field-0)) None =
    sym offends ∙ sized Off sign items (Does c.in-Tag.tag) none ∙ ap (unsized_offence sign items) (sym (ap meant_by c.in-Tag.is)) ∙ fine in
    cc

pub returns-clause-passed : goal.returns-clause-passed
returns-clause-passed c = λ items st fine.
    let none = places_none c.in-Tag.tag c.in_default-tag.not-NewLine in
    let judged = c.in-Ok.ensures.judged items st (λ placed. absurd (false≢true (sym none ∙ placed))) in
    subst (λ (m : Meaning). IsStateOf c.args.sign.now (items ++ m ∷ []) c.judge_tag.new.state) (sym (ap meant_by c.in-Tag.is)) judged.1
