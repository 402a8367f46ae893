use Rattle.std.proofs.Common.{ap, ◌∙◌, subst}
use Rattle.page_picture.specs.Colours.{ColourData, IsWhole}
use Rattle.page_picture.proofs.WriteLemmas
use Rattle.page_picture.proofs.colours.PageColours.octets.Goals as goal

pub returns : goal.returns
returns c =
    let page = c.args.self.now in
    let whole : IsWhole page = subst IsWhole c.self.view_is c.self.invariant in
    c.in_ok-octets.ensures.items ∙ c.deref.ensures.value ∙ ap (λ (p : ColourData). p.colours) c.self.view_is ∙ WriteLemmas.all_values page.width page.height page.colours whole.count
