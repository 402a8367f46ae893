use Rattle.multi_judge.proofs.Lemmas.{is_false, is_true, ◌≡◌, ◌==◌, ℕ, ◌+◌, ◌*◌, ◌-◌, refl, ap, sym, subst, ◌∙◌, arith, rules, true, false, not, State, Pass, ReadSoFar, IsUnfilledOf, IsBehind, IsPassOf, IsAt, front_read, gap_here, All, HasWidth, IsPlain, IsRun, List, drop, lengthened_by, line_in_force, slice_range, take, width_in, split_by, with_text, entry_found, looked_at, text_taken}
use Rattle.multi_judge.proofs.run.judge_run.Goals as goal

pub go_along-run-requires-clause-character : goal.go_along-run-requires-clause-character
go_along-run-requires-clause-character g c = c.requires.character.behind (is_false g.row.WORDS c.if-not-this.true)

pub returns-then-not-this-clause-at : goal.returns-then-not-this-clause-at
returns-then-not-this-clause-at g c =
    let sign = c.args.sign.now in
    let source = c.args.source.now in
    let at = c.args.at in
    let state = c.args.pass.now.state in
    let len = c.go_along-run.result.len in
    let plain : not (g.row.WORDS == 0) ≡ false = is_false g.row.WORDS c.if-not-this.true in
    let behind = subst (λ w. IsBehind sign source.octets at (IsPassOf w sign c.args.pass.now) source) plain c.requires.behind in
    let p = c.go_along-run.ensures.run sign c.requires.cells in
    let to = at + len in
    let (run, narrow) = p.run c.requires.character.within in
    let here : at + (to - at) ≡ to = omega arith in
    let many : source.steps + 2 * (to - at) ≡ source.steps + 2 * len = omega arith in
    let front = front_read sign source.octets at source.steps state behind.so_far (omega (arith, c.requires.short)) p.gap run (to - at) c.go_along-run.result.width (omega (arith, p.forward, p.within)) p.plain p.width narrow in
    let r = subst (λ (x : ℕ × ℕ × State). ReadSoFar sign source.octets x.0 x.1 (IsUnfilledOf sign x.2)) (λ i. (here i, many i, sym p.is i)) front in
    let new : Pass = record c.args.pass.now { state = c.go_along-run.new.self } in
    subst (λ w. IsAt sign source.octets to c.args.cells.now c.go_along-run.result.next (IsPassOf w sign new) c.go_along-run.new.source) (sym plain)
    (looked_at r c.requires.short c.args.cells.now c.go_along-run.result.next source c.go_along-run.new.source _ refl c.go_along-run.ensures.next c.go_along-run.ensures.steps (omega arith))

pub returns-then-not-this-clause-same : goal.returns-then-not-this-clause-same
returns-then-not-this-clause-same g c = ap (λ (s : State). s.attributes) (c.go_along-run.ensures.run c.args.sign.now c.requires.cells).is

pub returns-then-not-pass-clause-at : goal.returns-then-not-pass-clause-at
returns-then-not-pass-clause-at g c =
    looked_at c.requires.behind.so_far c.requires.short c.args.cells.now c.look.result c.args.source.now c.look.new.self _ refl
    (c.look.ensures.entry ∙ entry_found c.args.cells.now c.advances.result.now c.advances.ensures.table c.args.source.now.octets c.args.at c.look.ensures.octets) c.look.ensures.steps (omega arith)

pub returns-clause-at : goal.returns-clause-at
returns-clause-at g c =
    let sign = c.args.sign.now in
    let source = c.args.source.now in
    let at = c.args.at in
    let pass = c.args.pass.now in
    let state = pass.state in
    let gone = c.go_along_words-space in
    let len = gone.result.0.len in
    let pixels = gone.result.0.width in
    let space = gone.result.1 in
    let filled : not (g.row.WORDS == 0) ≡ true = is_true g.row.WORDS c.if-not-this.false in
    let behind = subst (λ w. IsBehind sign source.octets at (IsPassOf w sign pass) source) filled c.requires.behind in
    let some : (line_in_force state).any ≡ true = search rules in
    let run = c.requires.character.filled filled some in
    let p = gone.ensures.run sign c.requires.cells in
    let (runs, narrow) = p.run c.requires.character.within in
    let long : at + len - at ≡ len = omega arith in
    let is : gone.new.self ≡ lengthened_by pixels len state = p.is ∙ ap (λ n. lengthened_by pixels n state) long in
    let gap : c.gap-gap.result ≡ gap_here state = c.gap-gap.ensures in
    let text : slice_range source.octets at (at + len) ≡ take len (drop at source.octets) = λ i. take (long i) (drop at source.octets) in
    let width = subst (λ (x : ℕ × List ℕ). HasWidth (width_in sign state.attributes.font.number) x.0 x.1 pixels) (λ i. (p.gap_is i, text i)) p.width in
    let taken = text_taken sign source.octets at source.steps pass behind.so_far (omega (arith, c.requires.short)) run (gap_here state) (subst (IsRun state) p.gap_is runs) len pixels space p.within
    (subst (All IsPlain) text p.plain) width narrow (gone.ensures.space sign c.requires.cells) in
    let kept_is : c.take.new.self ≡ with_text (gap_here state) pixels len space pass =
    c.take.ensures ∙ (λ i. let now : Pass = record { state = is i; split = split_by ((is i).attributes) (gap i) pixels len space (line_in_force state) pass.split; order = pass.order } in now) in
    let r = subst (λ (x : Pass). ReadSoFar sign source.octets (at + len) (source.steps + 2 * len) (λ items. IsPassOf true sign x items)) (sym kept_is) taken.0 in
    subst (λ w. IsAt sign source.octets (at + len) c.args.cells.now gone.result.0.next (IsPassOf w sign c.take.new.self) gone.new.source) (sym filled)
    (looked_at r c.requires.short c.args.cells.now gone.result.0.next source gone.new.source _ refl gone.ensures.next gone.ensures.steps (omega arith))

pub returns-clause-same : goal.returns-clause-same
returns-clause-same g c = ap (λ (p : Pass). p.state.attributes) c.take.ensures ∙ ap (λ (s : State). s.attributes) (c.go_along_words-space.ensures.run c.args.sign.now c.requires.cells).is
