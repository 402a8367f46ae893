use Rattle.std.proofs.Common.{ap, sym, subst, ℕ, List}
use Rattle.multi_token.specs.Counted.{Counted}
use Rattle.page_picture.specs.Shown.{IsThere}
use Rattle.page_picture.proofs.ShownLemmas.{there_at}
use Rattle.sign_control.proofs.colours.write_shown.Goals as goal

pub write_colours-requires-clause-there : goal.write_colours-requires-clause-there
write_colours-requires-clause-there c =
    let old = c.accepted_text-checked.result in
    let octets = ap (λ (s : Counted). s.octets) c.locate-shown.ensures.steps in
    subst (λ (l : List ℕ). IsThere l c.locate-shown.result) (sym octets) (there_at old.sign old.source.octets c.args.clock c.locate-shown.result c.locate-shown.ensures.shown)
