use Rattle.std.proofs.Common.{◌++◌, ◌∙◌, ℕ, List, [], refl, ap, sym, arith, subst, append_assoc}
use Rattle.std.proofs.lemmas.Result.{err_from_is_err_and}
use Rattle.tool_streams.specs.declared.fault.ToolFault.TheVariants as faults
use Rattle.sign_tool.specs.internal.Ready.{ReadyData}
use Rattle.sign_tool.specs.Serving.{EndsServed, last_reply}
use Rattle.sign_tool.specs.Talk.{SaysLast}
use Rattle.sign_tool.proofs.ServingLemmas
use Rattle.sign_tool.proofs.ServingLemmas.{Serving}
use Rattle.sign_tool.proofs.ServingSteps
use Rattle.sign_tool.proofs.TalkLemmas
use Rattle.sign_tool.proofs.TalkLemmas.{Talking}
use Rattle.sign_tool.proofs.serving.serve_lines.Goals.{in-Answered, in_default+in_ok-hear+else-branch-eq0}
use Rattle.sign_tool.proofs.serving.serve_lines.Goals as goal

pub loop-round-init : goal.loop-round-init
loop-round-init g c = (
  [],
  [],
  [],
  [],
  ServingLemmas.begins c.args.server.now _ _ c.new-block.result c.args.ready.now.whole c.new-block.ensures (ap (λ (r : ReadyData). r.whole) c.requires.empty),
  ap (λ (r : ReadyData). r.begun) c.requires.empty,
  subst (λ (l : List ℕ). Talking c.args.server.now (g.T.Talk.did c.args.talk.now c.args.talk.now) l []) (sym c.new-block.ensures)
      (TalkLemmas.begins c.args.server.now (g.T.Talk.did c.args.talk.now c.args.talk.now) (g.met.T.Talk.rests c.args.talk.now)),
  (refl, refl),
)

pub returns-in-Err : goal.returns-in-Err
returns-in-Err g c =
    let (taken, lost, gone, lines, go, none, talked, held) = c.loop-round.invariant in
    record {
      serves = rw c.say_refused.ensures.kept (ServingLemmas.ends_refused _ _ _ _ _ _ _ _ _ _ _ _ _ _ _ go _ _ (rw c.in-Err.ensures.next at c.say_refused.ensures.ends));
      timely = TalkLemmas.ends_saying _ _ _ _ (g.met.T.Talk.goes_on c.args.talk.now c.loop-round.talk c.say_refused.new.talk) _ _ talked c.say_refused.result c.say_refused.ensures.says;
      same = (c.say_refused.ensures.same.0 ∙ held.0, c.say_refused.ensures.same.1 ∙ held.1);
    }

pub returns-in_err-say_ready : goal.returns-in_err-say_ready
returns-in_err-say_ready g c =
    let p = err_from_is_err_and c.from_residual.result c.from_residual.ensures.1 in
    let (taken, lost, gone, lines, go, none, talked, held) = c.loop-round.invariant in
    record {
      serves = rw (p.1, p.2, c.in_err-say_ready.ensures.kept) (ServingSteps.ends_writing _ _ _ _ _ _ _ _ _ _ _ _ _ _ _ go c.answer_next.new.server c.all.result.now c.answer_next.new.ready.whole c.say_ready.new.ready.whole c.in-Ok.next _ _ c.all.ensures c.in-Ok.ensures.next c.in_err-say_ready.ensures.written);
      timely = rw p.1 (TalkLemmas.ends_unsaid _ _ _ _ (g.met.T.Talk.goes_on c.args.talk.now c.loop-round.talk c.say_ready.new.talk) _ _ talked [] [] p.0 c.in_err-say_ready.ensures.says);
      same = (c.in_err-say_ready.ensures.same.0 ∙ held.0, c.in_err-say_ready.ensures.same.1 ∙ held.1);
    }

pub returns-in_err-hear : goal.returns-in_err-hear
returns-in_err-hear g c =
    let p = err_from_is_err_and c.from_residual-in_err-hear.result c.from_residual-in_err-hear.ensures.1 in
    let (taken, lost, gone, lines, go, none, talked, held) = c.loop-round.invariant in
    let (lost', gone', on, one, empty, all, given) = ServingSteps.paused _ _ _ _ _ _ _ _ _ _ _ _ _ _ _ go c.answer_next.new.server c.all.result.now c.answer_next.new.ready.whole c.say_ready.new.ready.whole c.pass_cut-is_cut.new.block c.in-Ok.next _ c.pass_cut-is_cut.result c.all.ensures c.in_default.not-Answered c.in-Ok.ensures.next c.in_ok-say_ready.ensures.written c.pass_cut-is_cut.ensures in
    let said = TalkLemmas.said_ready _ _ _ _ (g.met.T.Talk.goes_on c.args.talk.now c.loop-round.talk c.say_ready.new.talk) _ _ talked _ _ gone' (taken ++ (lost' ++ c.pass_cut-is_cut.new.block)) c.in_ok-say_ready.ensures.says given (ap (λ (l : List ℕ). taken ++ l) all) in
    let up = sym (ServingLemmas.caught_up _ _ _ _ _ _ _ _ _ _ _ _ _ _ _ on one empty) in
    let reads = rw c.in_ok-say_ready.ensures.kept at c.in_err-hear.ensures.reads in
    record {
      serves = rw (p.1, p.2, c.in_err-hear.ensures.kept) (ServingLemmas.ends_failed_read _ _ _ _ _ _ _ _ _ _ _ _ _ _ _ on _ [] 0 _ one empty reads);
      timely = rw p.1 (TalkLemmas.ends_unheard _ _ _ _ (g.met.T.Talk.goes_on c.args.talk.now c.say_ready.new.talk c.hear.new.self) _ _ said [] [] p.0 up c.in_err-hear.ensures.hears);
      same = (c.in_err-hear.ensures.same.0 ∙ c.in_ok-say_ready.ensures.same.0 ∙ held.0, c.in_err-hear.ensures.same.1 ∙ c.in_ok-say_ready.ensures.same.1 ∙ held.1);
    }

pub returns-then-branch-eq0 : goal.returns-then-branch-eq0
returns-then-branch-eq0 g c =
    let (taken, lost, gone, lines, go, none, talked, held) = c.loop-round.invariant in
    let (lost', gone', on, one, empty, all, given) = ServingSteps.paused _ _ _ _ _ _ _ _ _ _ _ _ _ _ _ go c.answer_next.new.server c.all.result.now c.answer_next.new.ready.whole c.say_ready.new.ready.whole c.pass_cut-is_cut.new.block c.in-Ok.next _ c.pass_cut-is_cut.result c.all.ensures c.in_default.not-Answered c.in-Ok.ensures.next c.in_ok-say_ready.ensures.written c.pass_cut-is_cut.ensures in
    let said = TalkLemmas.said_ready _ _ _ _ (g.met.T.Talk.goes_on c.args.talk.now c.loop-round.talk c.say_ready.new.talk) _ _ talked _ _ gone' (taken ++ (lost' ++ c.pass_cut-is_cut.new.block)) c.in_ok-say_ready.ensures.says given (ap (λ (l : List ℕ). taken ++ l) all) in
    let up = sym (ServingLemmas.caught_up _ _ _ _ _ _ _ _ _ _ _ _ _ _ _ on one empty) in
    let reads = rw c.in_ok-say_ready.ensures.kept at c.in_ok-hear.ensures.reads in
    let end = ServingLemmas.read_nothing _ _ _ _ _ _ _ _ _ _ _ _ _ _ _ on _ _ _ _ reads c.if-branch-eq0.true in
    let ends = subst (λ (l : List ℕ). EndsServed c.answer_next.new.server c.pass_cut-is_cut.result l c.say_ready.new.ready.whole (g.T.Talk.contents c.hear.new.self) (g.T.Talk.contents c.end_served.new.talk) c.end_served.result) (c.all-then-branch-eq0.ensures ∙ end.2) c.end_served.ensures.ends in
    let ends' = rw c.in_ok-hear.ensures.kept at ends in
    let heard = TalkLemmas.heard_on _ _ _ _ (g.met.T.Talk.goes_on c.args.talk.now c.say_ready.new.talk c.hear.new.self) _ _ said _ _ (taken ++ lost') 0 (sym (append_assoc taken lost' _)) up c.in_ok-hear.ensures.hears in
    let heard' = subst (λ (l : List ℕ). Talking c.args.server.now (g.T.Talk.did c.args.talk.now c.hear.new.self) l gone') (append_assoc taken lost' _ ∙ ap (λ (l : List ℕ). taken ++ (lost' ++ l)) end.2) heard in
    let replies = ServingLemmas.replies_are _ _ _ _ _ _ _ _ _ _ _ _ _ _ _ on _ one end.0 end.1 ∙ append_assoc gone' _ _ in
    let says = subst (λ (l : List ℕ). SaysLast (g.T.Talk.did c.hear.new.self c.end_served.new.talk) (c.say_ready.new.ready.whole ++ last_reply c.answer_next.new.server c.pass_cut-is_cut.result l) c.end_served.result)
    (c.all-then-branch-eq0.ensures ∙ end.2) c.end_served.ensures.says in
    record {
      serves = rw c.end_served.ensures.kept (ServingLemmas.ends_at_end _ _ _ _ _ _ _ _ _ _ _ _ _ _ _ on _ one end.0 end.1 _ _ ends');
      timely = TalkLemmas.ends_said _ _ _ _ (g.met.T.Talk.goes_on c.args.talk.now c.hear.new.self c.end_served.new.talk) _ _ heard' _ c.end_served.result replies says;
      same = (
        c.end_served.ensures.same.0 ∙ c.in_ok-hear.ensures.same.0 ∙ c.in_ok-say_ready.ensures.same.0 ∙ held.0,
        c.end_served.ensures.same.1 ∙ c.in_ok-hear.ensures.same.1 ∙ c.in_ok-say_ready.ensures.same.1 ∙ held.1,
      );
    }

pub loop-round-preserved : goal.loop-round-preserved
loop-round-preserved g c = elim c.match-next.branch [
  | in-Answered w ↦
      let (taken, lost, gone, lines, go, none, talked, held) = c.loop-round.invariant in
      let (taken', lost', gone', lines', on, same, given) = ServingSteps.goes_on _ _ _ _ _ _ _ _ _ _ _ _ _ _ _ go c.answer_next.new.server c.all.result.now c.answer_next.new.ready.whole c.say_ready.new.ready.whole c.in-Ok.next w.in-Answered.count _ c.all.ensures w.in-Answered.is c.in-Ok.ensures.next c.in_ok-say_ready.ensures.written in
      let said = TalkLemmas.said_ready _ _ _ _ (g.met.T.Talk.goes_on c.args.talk.now c.loop-round.talk c.say_ready.new.talk) _ _ talked _ _ gone' _ c.in_ok-say_ready.ensures.says given same in
      rw (w.talk-is, w.block-is, w.seen-is, w.is_cut-is, w.pass.ensures, c.in_ok-say_ready.ensures.kept) (taken', lost', gone', lines', on, c.in_ok-say_ready.ensures.begun, said, (c.in_ok-say_ready.ensures.same.0 ∙ held.0, c.in_ok-say_ready.ensures.same.1 ∙ held.1))
  | in_default+in_ok-hear+else-branch-eq0 w ↦
      let (taken, lost, gone, lines, go, none, talked, held) = c.loop-round.invariant in
      let (lost', gone', on, one, empty, all, given) = ServingSteps.paused _ _ _ _ _ _ _ _ _ _ _ _ _ _ _ go c.answer_next.new.server c.all.result.now c.answer_next.new.ready.whole c.say_ready.new.ready.whole w.pass_cut-is_cut.new.block c.in-Ok.next _ w.pass_cut-is_cut.result c.all.ensures w.in_default.not-Answered c.in-Ok.ensures.next c.in_ok-say_ready.ensures.written w.pass_cut-is_cut.ensures in
      let said = TalkLemmas.said_ready _ _ _ _ (g.met.T.Talk.goes_on c.args.talk.now c.loop-round.talk c.say_ready.new.talk) _ _ talked _ _ gone' (taken ++ (lost' ++ w.pass_cut-is_cut.new.block)) c.in_ok-say_ready.ensures.says given (ap (λ (l : List ℕ). taken ++ l) all) in
      let up = sym (ServingLemmas.caught_up _ _ _ _ _ _ _ _ _ _ _ _ _ _ _ on one empty) in
      let reads = rw c.in_ok-say_ready.ensures.kept at w.in_ok-hear.ensures.reads in
      let more = ServingLemmas.read_more _ _ _ _ _ _ _ _ _ _ _ _ _ _ _ on _ _ _ _ refl one reads (omega (arith, w.if-branch-eq0.false)) in
      let heard = TalkLemmas.heard_on _ _ _ _ (g.met.T.Talk.goes_on c.args.talk.now c.say_ready.new.talk w.hear.new.self) _ _ said _ _ (taken ++ lost') 0 (sym (append_assoc taken lost' _)) up w.in_ok-hear.ensures.hears in
      let heard' = subst (λ (l : List ℕ). Talking c.args.server.now (g.T.Talk.did c.args.talk.now w.hear.new.self) l gone') (append_assoc taken lost' _) heard in
      rw (w.talk-is, w.block-is, w.seen-is, w.len-seen.ensures.value, w.is_cut-is, w.in_ok-hear.ensures.kept) (taken, lost', gone', lines, more, c.in_ok-say_ready.ensures.begun, heard', (w.in_ok-hear.ensures.same.0 ∙ c.in_ok-say_ready.ensures.same.0 ∙ held.0, w.in_ok-hear.ensures.same.1 ∙ c.in_ok-say_ready.ensures.same.1 ∙ held.1))
]

pub returns : goal.returns
returns g c =
    let (taken, lost, gone, lines, go, none, talked, held) = c.loop-round.invariant in
    record {
      serves = ServingLemmas.ends_long _ _ _ _ _ _ _ _ _ _ _ _ _ _ _ go (omega (arith, c.loop-round-test.false));
      timely = TalkLemmas.in_time _ _ _ _ faults.InputTooLong talked;
      same = held;
    }
