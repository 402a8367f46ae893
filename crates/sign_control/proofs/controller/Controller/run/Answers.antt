use Rattle.std.proofs.Common.{◌∙◌, ◌∷◌, [], ap, arith, fold, refl, sym}
use Rattle.std.proofs.lemmas.List.Sums.{fold-append}
use Rattle.sign_control.specs.Revision.{revised}
use Rattle.sign_control.proofs.BudgetLemmas.{every_run_stays_within}
use Rattle.sign_control.proofs.CountLemmas.{next-run}
use Rattle.sign_control.proofs.controller.Controller.run.Goals as goal

pub loop-command-preserved : goal.loop-command-preserved
loop-command-preserved c =
    let i = c.loop-command.invariant in
    record {
      room = omega (arith, i.room, c.in-Ok-push.ensures.capacity);
      count = omega (arith, i.count, c.in-Ok-push.ensures.len);
      done = next-run c.args.self.now.sign c.loop-command.self.sign c.args.self.now.state c.args.commands.now c.loop-command.command-index c.args.self.now.steps _ _
          c.loop-command.self.state c.apply.new.self.state c.loop-command.replies.items c.push.new.self.items c.apply.result c.loop-command.self.steps c.apply.new.self.steps
          (omega (arith, c.loop-command-test.true)) refl i.sign i.done
          c.apply.ensures.state c.apply.ensures.reply c.in-Ok-push.ensures.items c.apply.ensures.steps;
      sign = c.apply.ensures.kept.0 ∙ i.sign;
      plane = c.apply.ensures.kept.1 ∙ i.plane;
      revision =
          c.apply.ensures.revision
          ∙ ap (revised c.loop-command.self.revision) (sym c.apply.ensures.reply)
          ∙ ap (λ n. revised n c.apply.result) i.revision
          ∙ sym (ap (fold revised c.args.self.now.revision) c.in-Ok-push.ensures.items ∙ fold-append revised c.args.self.now.revision c.loop-command.replies.items (c.apply.result ∷ []));
    }

pub returns-in_default-clause-within : goal.returns-in_default-clause-within
returns-in_default-clause-within c =
    let s = c.self.inside in
    rw (← c.self.view_is) (every_run_stays_within s.sign (record { store = s.store; defaults = s.defaults; display = s.display; text = s.text.items; registers = s.registers; end = s.end }) c.args.commands.now c.limits-limits.ensures.kept)

pub returns-clause-within : goal.returns-clause-within
returns-clause-within c =
    let s = c.self.inside in
    rw (← c.self.view_is) (every_run_stays_within s.sign (record { store = s.store; defaults = s.defaults; display = s.display; text = s.text.items; registers = s.registers; end = s.end }) c.args.commands.now c.limits-limits.ensures.kept)
