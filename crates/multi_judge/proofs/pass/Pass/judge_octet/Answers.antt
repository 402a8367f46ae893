use Rattle.multi_judge.proofs.Lemmas.{sym, ap, ◌∙◌, cell_in, pass_undefined, no_cell, Entry}
use Rattle.multi_judge.proofs.pass.Pass.judge_octet.Goals as goal

pub returns-in-None-clause-judged : goal.returns-in-None-clause-judged
returns-in-None-clause-judged g c = λ sign widths items of.
    pass_undefined sign items c.args.self.now _ of c.args.entry.octet (no_cell (cell_in sign c.args.self.now.state.attributes.font.number c.args.entry.octet)
    (sym c.in-None.is ∙ c.width_of.ensures.width (ap (λ (e : Entry). e.advance) c.requires.known) c.requires.plain ∙ sym (widths c.args.entry.octet)))
