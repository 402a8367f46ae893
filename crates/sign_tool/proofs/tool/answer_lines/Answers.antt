use Rattle.std.proofs.Common.{◌≡◌, [], ◌++◌, true, false, rules, ap, ◌∙◌, arith, length}
use Rattle.std.proofs.lemmas.Result.{err_from_is_err_and}
use Rattle.sign_tool.specs.internal.Ready.{ReadyData}
use Rattle.sign_tool.proofs.AnsweringLemmas
use Rattle.sign_tool.proofs.tool.answer_lines.Goals as goal

pub loop-front-init : goal.loop-front-init
loop-front-init g c =
    ([], [], [], AnsweringLemmas.begins _ _ _ _ _ c.new-block.result c.new-ready.result.whole c.new-block.ensures (ap (λ (r : ReadyData). r.whole) c.new-ready.ensures) c.requires, ap (λ (r : ReadyData). r.begun) c.new-ready.ensures, omega (arith, ap (λ (r : ReadyData). length r.whole) c.new-ready.ensures))

pub returns-in-Err : goal.returns-in-Err
returns-in-Err g c =
    let (taken, gone, lines, go, none, few) = c.loop-front.invariant in
    record { runs = AnsweringLemmas.stops_refused _ _ _ _ _ _ _ _ _ _ _ _ _ _ _ _ go (g.A.Answer.answers c.answer_whole.new.answer) _ _ _ c.first-octets.ensures c.in-Err.ensures.lines _ _ c.end_refused.ensures }

pub returns-in_err-write_ready : goal.returns-in_err-write_ready
returns-in_err-write_ready g c =
    let p = err_from_is_err_and c.from_residual.result c.from_residual.ensures.1 in
    let (taken, gone, lines, go, none, few) = c.loop-front.invariant in
    let s = AnsweringLemmas.stopped _ _ _ _ _ _ _ _ _ _ _ _ _ _ _ _ go (g.A.Answer.answers c.answer_whole.new.answer) _ c.answer_whole.new.ready.whole c.in-Ok.front c.first-octets.ensures c.in-Ok.ensures.lines in
    rw (p.1, p.2) (record { runs = AnsweringLemmas.ends_writing _ _ _ _ _ _ _ _ _ _ _ _ _ _ _ _ s.go c.in-Ok.front.at (g.A.Answer.answers c.answer_whole.new.answer) c.in-Ok.front.last c.answer_whole.new.ready.whole c.write_ready.new.ready.whole _ _ s.stops c.in_err-write_ready.ensures.written })

pub loop-front-preserved-in-Answered : goal.loop-front-preserved-in-Answered
loop-front-preserved-in-Answered g c =
    let (taken, gone, lines, go, none, few) = c.loop-front.invariant in
    let s = AnsweringLemmas.stopped _ _ _ _ _ _ _ _ _ _ _ _ _ _ _ _ go (g.A.Answer.answers c.answer_whole.new.answer) _ c.answer_whole.new.ready.whole c.in-Ok.front c.first-octets.ensures c.in-Ok.ensures.lines in
    let a = AnsweringLemmas.stops_is c.in-Ok.front.at s.between (g.A.Answer.answers c.answer_whole.new.answer) _ s.ready_then c.answer_whole.new.ready.whole c.in-Ok.front.last _ c.in-Answered.is s.stops in
    let w = AnsweringLemmas.written_is _ _ c.in-Ok.front.last _ c.answer_whole.new.ready.whole c.write_ready.new.ready.whole c.in-Answered.is c.in_ok-write_ready.ensures.written in
    let on = AnsweringLemmas.goes_on _ _ _ _ _ _ _ _ _ _ _ _ _ _ _ _ s.go c.in-Ok.front.at (g.A.Answer.answers c.answer_whole.new.answer) c.in-Answered.field-0 c.answer_whole.new.ready.whole c.write_ready.new.ready.whole _ a w in
    (s.taken, gone ++ w.0, s.lines, rw c.pass.ensures on, c.in_ok-write_ready.ensures.begun, w.3)

pub read_on-requires-clause-one : goal.read_on-requires-clause-one
read_on-requires-clause-one g c =
    let (taken, gone, lines, go, none, few) = c.loop-front.invariant in
    let s = AnsweringLemmas.stopped _ _ _ _ _ _ _ _ _ _ _ _ _ _ _ _ go (g.A.Answer.answers c.answer_whole.new.answer) _ c.answer_whole.new.ready.whole c.in-Ok.front c.first-octets.ensures c.in-Ok.ensures.lines in
    let a = AnsweringLemmas.stops_is c.in-Ok.front.at s.between (g.A.Answer.answers c.answer_whole.new.answer) _ s.ready_then c.answer_whole.new.ready.whole c.in-Ok.front.last _ c.in-Open.is s.stops in
    rw c.pass.ensures a.0

pub returns-in_err-read_on-in-Open : goal.returns-in_err-read_on-in-Open
returns-in_err-read_on-in-Open g c =
    let p = err_from_is_err_and c.from_residual-in_err-read_on-in-Open.result c.from_residual-in_err-read_on-in-Open.ensures.1 in
    let (taken, gone, lines, go, none, few) = c.loop-front.invariant in
    let s = AnsweringLemmas.stopped _ _ _ _ _ _ _ _ _ _ _ _ _ _ _ _ go (g.A.Answer.answers c.answer_whole.new.answer) _ c.answer_whole.new.ready.whole c.in-Ok.front c.first-octets.ensures c.in-Ok.ensures.lines in
    let a = AnsweringLemmas.stops_is c.in-Ok.front.at s.between (g.A.Answer.answers c.answer_whole.new.answer) _ s.ready_then c.answer_whole.new.ready.whole c.in-Ok.front.last _ c.in-Open.is s.stops in
    let w = AnsweringLemmas.written_is _ _ c.in-Ok.front.last _ c.answer_whole.new.ready.whole c.write_ready.new.ready.whole c.in-Open.is c.in_ok-write_ready.ensures.written in
    let paused = AnsweringLemmas.paused _ _ _ _ _ _ _ _ _ _ _ _ _ _ _ _ s.go (g.A.Answer.answers c.answer_whole.new.answer) c.answer_whole.new.ready.whole c.write_ready.new.ready.whole _ a w in
    rw (p.1, p.2) (record { runs = AnsweringLemmas.ends_with _ _ _ _ _ _ _ _ _ _ _ _ _ _ _ _ paused _ _ w.3 (rw c.pass.ensures at c.in_err-read_on-in-Open.ensures.on) })

pub returns-then-not-branch : goal.returns-then-not-branch
returns-then-not-branch g c =
    let (taken, gone, lines, go, none, few) = c.loop-front.invariant in
    let s = AnsweringLemmas.stopped _ _ _ _ _ _ _ _ _ _ _ _ _ _ _ _ go (g.A.Answer.answers c.answer_whole.new.answer) _ c.answer_whole.new.ready.whole c.in-Ok.front c.first-octets.ensures c.in-Ok.ensures.lines in
    let a = AnsweringLemmas.stops_is c.in-Ok.front.at s.between (g.A.Answer.answers c.answer_whole.new.answer) _ s.ready_then c.answer_whole.new.ready.whole c.in-Ok.front.last _ c.in-Open.is s.stops in
    let w = AnsweringLemmas.written_is _ _ c.in-Ok.front.last _ c.answer_whole.new.ready.whole c.write_ready.new.ready.whole c.in-Open.is c.in_ok-write_ready.ensures.written in
    let paused = AnsweringLemmas.paused _ _ _ _ _ _ _ _ _ _ _ _ _ _ _ _ s.go (g.A.Answer.answers c.answer_whole.new.answer) c.answer_whole.new.ready.whole c.write_ready.new.ready.whole _ a w in
    let none : c.in_ok-read_on-in-Open.field-0 ≡ false = search rules in
    record { runs = AnsweringLemmas.ends_at_end _ _ _ _ _ _ _ _ _ _ _ _ _ _ _ _ paused _ w.3 (rw (none, c.pass.ensures) at c.in_ok-read_on-in-Open.ensures.on) }

pub loop-front-preserved : goal.loop-front-preserved
loop-front-preserved g c =
    let (taken, gone, lines, go, none, few) = c.loop-front.invariant in
    let s = AnsweringLemmas.stopped _ _ _ _ _ _ _ _ _ _ _ _ _ _ _ _ go (g.A.Answer.answers c.answer_whole.new.answer) _ c.answer_whole.new.ready.whole c.in-Ok.front c.first-octets.ensures c.in-Ok.ensures.lines in
    let a = AnsweringLemmas.stops_is c.in-Ok.front.at s.between (g.A.Answer.answers c.answer_whole.new.answer) _ s.ready_then c.answer_whole.new.ready.whole c.in-Ok.front.last _ c.in-Open.is s.stops in
    let w = AnsweringLemmas.written_is _ _ c.in-Ok.front.last _ c.answer_whole.new.ready.whole c.write_ready.new.ready.whole c.in-Open.is c.in_ok-write_ready.ensures.written in
    let paused = AnsweringLemmas.paused _ _ _ _ _ _ _ _ _ _ _ _ _ _ _ _ s.go (g.A.Answer.answers c.answer_whole.new.answer) c.answer_whole.new.ready.whole c.write_ready.new.ready.whole _ a w in
    let more : c.in_ok-read_on-in-Open.field-0 ≡ true = search rules in
    (s.taken, gone ++ w.0, s.lines, AnsweringLemmas.read_more _ _ _ _ _ _ _ _ _ _ _ _ _ _ _ _ paused _ _ _ a.0 (c.len-seen.ensures.value ∙ ap length c.pass.ensures) (rw (more, c.pass.ensures) at c.in_ok-read_on-in-Open.ensures.on), c.in_ok-write_ready.ensures.begun, omega (arith, ap length w.3))

pub returns-in-TooLong : goal.returns-in-TooLong
returns-in-TooLong g c =
    let (taken, gone, lines, go, none, few) = c.loop-front.invariant in
    let s = AnsweringLemmas.stopped _ _ _ _ _ _ _ _ _ _ _ _ _ _ _ _ go (g.A.Answer.answers c.answer_whole.new.answer) _ c.answer_whole.new.ready.whole c.in-Ok.front c.first-octets.ensures c.in-Ok.ensures.lines in
    let a = AnsweringLemmas.stops_is c.in-Ok.front.at s.between (g.A.Answer.answers c.answer_whole.new.answer) _ s.ready_then c.answer_whole.new.ready.whole c.in-Ok.front.last _ c.in-TooLong.is s.stops in
    let w = AnsweringLemmas.written_is _ _ c.in-Ok.front.last _ c.answer_whole.new.ready.whole c.write_ready.new.ready.whole c.in-TooLong.is c.in_ok-write_ready.ensures.written in
    record { runs = AnsweringLemmas.stops_long _ _ _ _ _ _ _ _ _ _ _ _ _ _ _ _ s.go (g.A.Answer.answers c.answer_whole.new.answer) c.answer_whole.new.ready.whole c.write_ready.new.ready.whole _ a w }

pub returns-in-Bad : goal.returns-in-Bad
returns-in-Bad g c =
    let (taken, gone, lines, go, none, few) = c.loop-front.invariant in
    let s = AnsweringLemmas.stopped _ _ _ _ _ _ _ _ _ _ _ _ _ _ _ _ go (g.A.Answer.answers c.answer_whole.new.answer) _ c.answer_whole.new.ready.whole c.in-Ok.front c.first-octets.ensures c.in-Ok.ensures.lines in
    let a = AnsweringLemmas.stops_is c.in-Ok.front.at s.between (g.A.Answer.answers c.answer_whole.new.answer) _ s.ready_then c.answer_whole.new.ready.whole c.in-Ok.front.last _ c.in-Bad.is s.stops in
    let w = AnsweringLemmas.written_is _ _ c.in-Ok.front.last _ c.answer_whole.new.ready.whole c.write_ready.new.ready.whole c.in-Bad.is c.in_ok-write_ready.ensures.written in
    record { runs = AnsweringLemmas.stops_bad _ _ _ _ _ _ _ _ _ _ _ _ _ _ _ _ s.go (g.A.Answer.answers c.answer_whole.new.answer) c.answer_whole.new.ready.whole c.write_ready.new.ready.whole _ a w }
