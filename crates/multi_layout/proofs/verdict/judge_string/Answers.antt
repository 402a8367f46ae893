use Rattle.multi_layout.proofs.Common.{false, true, [], subst, sym, ◌∙◌, IsStateOf}
use Rattle.multi_judge.specs.internal.State.{IsLimited}
use Rattle.multi_layout.proofs.AtLemmas.{pass_told}
use Rattle.multi_judge.proofs.ReadLemmas.{pass_start}
use Rattle.multi_layout.proofs.verdict.judge_string.Goals.{in-Off+in_ok-judge_items-in-Off, in-Words+in_ok-judge_items-in-Words}
use Rattle.multi_layout.proofs.verdict.judge_string.Goals as goal

pub judge_items-requires-clause-start : goal.judge_items-requires-clause-start
judge_items-requires-clause-start c =
    let sign = c.args.sign.now in
    pass_start sign c.new-pass.result false (rw (← c.sign.view_is) (sym c.line_fill.ensures.line_fill ∙ c.in-Off.is)) (subst (IsStateOf sign []) (sym c.new-pass.ensures.state) c.new.ensures.start)
    (subst IsLimited (sym c.new-pass.ensures.state) c.new.ensures.limited)
    (λ st none. c.new-pass.ensures.filled sign [] (subst (IsStateOf sign _) c.new-pass.ensures.state st) none)

pub judge_items-requires-in-Words-clause-start : goal.judge_items-requires-in-Words-clause-start
judge_items-requires-in-Words-clause-start c =
    let sign = c.args.sign.now in
    pass_start sign c.new-pass.result true (rw (← c.sign.view_is) (sym c.line_fill.ensures.line_fill ∙ c.in-Words.is)) (subst (IsStateOf sign []) (sym c.new-pass.ensures.state) c.new.ensures.start)
    (subst IsLimited (sym c.new-pass.ensures.state) c.new.ensures.limited)
    (λ st none. c.new-pass.ensures.filled sign [] (subst (IsStateOf sign _) c.new-pass.ensures.state st) none)

pub returns-clause-told : goal.returns-clause-told
returns-clause-told c =
    let sign = c.args.sign.now in
    let octets = c.args.source.now.octets in
    rw c.whole_cycle-cycle.ensures (elim c.match-line_fill.branch [
      | in-Off+in_ok-judge_items-in-Off w ↦
          let (at, font, ended) = w.in_ok-judge_items-in-Off.ensures.ended in
          pass_told sign octets at font c.match-line_fill.pass false c.match-line_fill.source (rw (← w.pass-is, ← w.source-is) at ended)
      | in-Words+in_ok-judge_items-in-Words w ↦
          let (at, font, ended) = w.in_ok-judge_items-in-Words.ensures.ended in
          pass_told sign octets at font c.match-line_fill.pass true c.match-line_fill.source (rw (← w.pass-is, ← w.source-is) at ended)
    ])
