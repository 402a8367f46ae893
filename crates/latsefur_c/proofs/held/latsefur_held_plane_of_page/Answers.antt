use Rattle.latsefur_c.proofs.HeldLemmas
use Rattle.latsefur_c.proofs.held.latsefur_held_plane_of_page.Goals as goal

pub returns : goal.returns
returns c =
    let drawn = c.draw_page-outcome.ensures in
    record { drawn = HeldLemmas.drawn_held _ _ c.in-Some.held.value c.deref_mut.result.now _ _ _ _ _ _ _ _ c.in-Some.ensures.some c.deref_mut.ensures.value c.of.ensures drawn.state drawn.sign drawn.revision drawn.drawn }
