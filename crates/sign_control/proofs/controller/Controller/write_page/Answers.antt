use Rattle.sign_control.proofs.controller.Controller.write_page.Goals as goal

pub returns-clause-found : goal.returns-clause-found
returns-clause-found c = rw (← c.self.view_is) c.write_text-written.ensures.found

pub returns-clause-missing : goal.returns-clause-missing
returns-clause-missing c = rw (← c.self.view_is) c.write_text-written.ensures.missing

pub returns-clause-steps : goal.returns-clause-steps
returns-clause-steps c = rw (← c.self.view_is) (c.write_text-written.result.1, c.write_text-written.ensures.least, c.write_text-written.ensures.most, c.raised-self-inside.ensures)
