use Rattle.multi_judge.proofs.Lemmas.{◌≡◌, true, false, rules, ◌∙◌, option_map_or, unwrap_or, average, height_ended, height_present}
use Rattle.multi_judge.proofs.area.Group.height.Goals as goal

pub returns-then-not-self-clause-sum : goal.returns-then-not-self-clause-sum
returns-then-not-self-clause-sum c group placing e = let none : c.args.self.line.any ≡ false = search rules in height_ended group placing c.args.self e none

pub returns-clause-sum : goal.returns-clause-sum
returns-clause-sum c group placing e =
    let self = c.args.self in
    let gap : c.match-self.gap ≡ option_map_or (λ ended. unwrap_or ended.gap (average ended.spacing self.line.spacing)) self.last 0 = elim c.match-self.branch [
      | goal.in-Some w ↦ rw w.in-Some.is (w.gap-is ∙ w.gap_or_average-gap.ensures)
      | goal.in-None w ↦ rw w.in-None.is w.gap-is
    ] in
    let some : self.line.any ≡ true = search rules in
    c.saturating_add.ensures ∙ height_present group placing self e some c.from.result c.from-2.result (c.from.ensures ∙ gap) c.from-2.ensures
