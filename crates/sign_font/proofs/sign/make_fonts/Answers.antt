use Rattle.std.proofs.Common.{◌≡◌, ◌∷◌, ◌∙◌}
use Rattle.std.specs.Vec.Iter.{into_iter_items}
use Rattle.sign_font.specs.Sign.{font_of}
use Rattle.sign_font.specs.Sound.{IsSoundFont}
use Rattle.sign_font.proofs.SoundLemmas.{All-among}
use Rattle.sign_font.proofs.sign.make_fonts.Goals as goal

pub new-requires : goal.new-requires
new-requires c =
    let at = c.loop-part in
    let steps : into_iter_items at.part-iterator ≡ c.in-Some.part ∷ into_iter_items c.next.new.self = c.in-Some.ensures.steps.0 in
    let all = rw steps at at.invariant.so_far ∙ c.into_iter-part-iterator.ensures.into_iter_gives.0 in
    All-among IsSoundFont font_of at.yielded c.in-Some.part _ _ all c.requires
