use Rattle.sign_font.specs.Defaults.{under}
use Rattle.message_store.specs.Work.{waiting, judged_of}
use Rattle.sign_control.proofs.CountLemmas.{worked-count}
use Rattle.sign_control.proofs.controller.Controller.work.Goals as goal

pub returns-clause-steps : goal.returns-clause-steps
returns-clause-steps c =
    let s = c.self.inside in
    rw (← c.self.view_is) (worked-count (under s.sign s.defaults) s.store (waiting s.store) (judged_of c.in-Some.judged) c.in-Some.judged.steps s.steps c.raised-self-inside.result
    c.in-Some.ensures.judged c.in-Some.ensures.steps c.raised-self-inside.ensures)
