use Rattle.sign_control.proofs.controller.Controller.draw_page.Goals as goal

pub returns-clause-found : goal.returns-clause-found
returns-clause-found c = rw (← c.self.view_is) c.draw_text-drawn.ensures.found

pub returns-clause-drawn : goal.returns-clause-drawn
returns-clause-drawn c = rw (← c.self.view_is) c.draw_text-drawn.ensures.drawn

pub returns-clause-missing : goal.returns-clause-missing
returns-clause-missing c = rw (← c.self.view_is) c.draw_text-drawn.ensures.missing

pub returns-clause-steps : goal.returns-clause-steps
returns-clause-steps c = rw (← c.self.view_is) (c.draw_text-drawn.result.1, c.draw_text-drawn.ensures.least, c.draw_text-drawn.ensures.most, c.raised-self-inside.ensures)
