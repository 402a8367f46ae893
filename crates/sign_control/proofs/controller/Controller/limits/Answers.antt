use Rattle.std.proofs.Common.{ap}
use Rattle.message_store.specs.Judged.{is_accepted}
use Rattle.sign_control.proofs.controller.Controller.limits.Goals as goal

pub returns-clause-taken : goal.returns-clause-taken
returns-clause-taken c =
    let i = c.self.invariant in
    rw (← c.self.view_is) (record {
      kept = c.limits.ensures.kept;
      defaults = i.taken;
      shown_defaults = i.shown_taken;
      accepted = ap is_accepted i.accepted.1;
      short = i.fits;
    })
