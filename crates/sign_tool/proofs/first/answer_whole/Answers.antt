use Rattle.std.proofs.Common.{◌≢◌, refl, sym, ap, subst, arith, length}
use Rattle.std.proofs.lemmas.List.{take_rest}
use Rattle.std.proofs.lemmas.List.Elements.{All-nil}
use Rattle.std.proofs.lemmas.Result.{err_from_is_err_and}
use Rattle.sign_tool.specs.internal.Blocks.{AnswersLines}
use Rattle.sign_tool.proofs.AnsweringLemmas
use Rattle.sign_tool.proofs.first.answer_whole.Goals as goal

pub loop-last-init : goal.loop-last-init
loop-last-init g c = (AnsweringLemmas.no_lines _ _ _, c.requires.seen, c.requires.none, c.requires.begun, c.requires.waiting)

pub slice_bounds-answer_first-count : goal.slice_bounds-answer_first-count
slice_bounds-answer_first-count g c = c.loop-last.invariant.0.within

pub slice_bounds-answer_first-start : goal.slice_bounds-answer_first-start
slice_bounds-answer_first-start g c = c.loop-last.invariant.0.within

pub answer_first-requires-clause-seen : goal.answer_first-requires-clause-seen
answer_first-requires-clause-seen g c = rw (take_rest c.args.octets.now c.loop-last.at) c.loop-last.invariant.1

pub answer_first-requires-clause-none : goal.answer_first-requires-clause-none
answer_first-requires-clause-none g c = rw (take_rest c.args.octets.now c.loop-last.at) c.loop-last.invariant.2

pub answer_first-requires-clause-begun : goal.answer_first-requires-clause-begun
answer_first-requires-clause-begun g c = c.loop-last.invariant.3

pub returns-in_err-last-clause-lines : goal.returns-in_err-last-clause-lines
returns-in_err-last-clause-lines g c =
    let p = err_from_is_err_and c.from_residual.result c.from_residual.ensures.1 in
    let (a, seen, none, begun, few) = c.loop-last.invariant in
    let same = c.in_err-last.ensures.first in
    rw p.1 (
      g.A.Answer.answers c.loop-last.answer,
      c.loop-last.at,
      c.loop-last.lines,
      subst (λ l. AnswersLines (g.A.Answer.answers c.args.answer.now) (g.A.Answer.answers c.loop-last.answer) c.args.octets.now c.args.ready.now.whole l c.loop-last.at c.loop-last.lines) (sym same) a,
    )

pub returns-in_default : goal.returns-in_default
returns-in_default g c =
    let (a, seen, none, begun, few) = c.loop-last.invariant in
    let (stops, many) = AnsweringLemmas.stops_here c.loop-last.at _ _ _ _ _ c.in_ok-last.last c.in_default.not-Answered
    (AnsweringLemmas.first_is (g.A.Answer.answers c.loop-last.answer) (g.A.Answer.answers c.answer_first.new.answer) _ _ _ _ c.in_ok-last.last _ (take_rest c.args.octets.now c.loop-last.at) refl c.in_ok-last.ensures.first) in
    record { lines = (g.A.Answer.answers c.loop-last.answer, c.loop-last.ready.whole, a, stops); begun = c.in_ok-last.ensures.begun; many = many few }

pub overflow_add-lines : goal.overflow_add-lines
overflow_add-lines g c =
    let (a, seen, none, begun, few) = c.loop-last.invariant in
    let more = AnsweringLemmas.one_more _ _ _ _ _ _ _ _ _ c.in-Answered.count a (rw (c.in-Answered.is, take_rest c.args.octets.now c.loop-last.at) at c.in_ok-last.ensures.first) in
    omega (arith, more.few, more.within, c.requires.few)

pub returns-then-whole-ge-MAX_READY-clause-lines : goal.returns-then-whole-ge-MAX_READY-clause-lines
returns-then-whole-ge-MAX_READY-clause-lines g c =
    let (a, seen, none, begun, few) = c.loop-last.invariant in
    let more = AnsweringLemmas.one_more _ _ _ _ _ _ _ _ _ c.in-Answered.count a (rw (c.in-Answered.is, take_rest c.args.octets.now c.loop-last.at) at c.in_ok-last.ensures.first) in
    (g.A.Answer.answers c.answer_first.new.answer, c.answer_first.new.ready.whole, more, (omega (arith, more.few), refl, refl))

pub loop-last-smaller : goal.loop-last-smaller
loop-last-smaller g c =
    let (a, seen, none, begun, few) = c.loop-last.invariant in
    let answered = rw (c.in-Answered.is, take_rest c.args.octets.now c.loop-last.at) at c.in_ok-last.ensures.first in
    let more = AnsweringLemmas.one_more _ _ _ _ _ _ _ _ _ c.in-Answered.count a answered in
    omega (arith, more.within, answered.3)

pub loop-last-preserved : goal.loop-last-preserved
loop-last-preserved g c =
    let (a, seen, none, begun, few) = c.loop-last.invariant in
    let more = AnsweringLemmas.one_more _ _ _ _ _ _ _ _ _ c.in-Answered.count a (rw (c.in-Answered.is, take_rest c.args.octets.now c.loop-last.at) at c.in_ok-last.ensures.first) in
    (more, omega arith, All-nil (λ octet. octet ≢ 10), c.in_ok-last.ensures.begun, omega (arith, ap length c.whole.ensures, c.if-whole-ge-MAX_READY.false))
