use Rattle.std.proofs.Common.{ap, ◌∙◌}
use Rattle.multi_layout.specs.Prelude.{CheckedData, page_count}
use Rattle.multi_layout.proofs.PagesLemmas.{accepted_of}
use Rattle.multi_layout.proofs.checked.Checked.locate.Goals as goal

pub returns-clause-one : goal.returns-clause-one
returns-clause-one c = λ is.
    let told = accepted_of c.self.invariant in
    c.find_shown.ensures.one (told.1 ∙ ap page_count c.self.view_is ∙ is) ∙ ap (λ (s : CheckedData). s.source) c.self.view_is
