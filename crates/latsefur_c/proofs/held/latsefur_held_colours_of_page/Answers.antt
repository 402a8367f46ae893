use Rattle.latsefur_c.proofs.HeldLemmas
use Rattle.latsefur_c.proofs.held.latsefur_held_colours_of_page.Goals as goal

pub returns : goal.returns
returns c =
    let painted = c.paint_page-outcome.ensures in
    record { drawn = HeldLemmas.painted_held _ _ c.in-Some.held.value c.deref_mut.result.now _ _ _ _ _ _ _ c.in-Some.ensures.some c.deref_mut.ensures.value c.of.ensures painted.state painted.sign painted.revision painted.painted }
