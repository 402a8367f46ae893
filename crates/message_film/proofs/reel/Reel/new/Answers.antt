use Rattle.std.proofs.Common.{◌∙◌}
use Rattle.page_picture.specs.Palette.{palette}
use Rattle.message_film.proofs.ReelLemmas
use Rattle.message_film.proofs.reel.Reel.new.Goals as goal

pub invariant_of-result : goal.invariant_of-result
invariant_of-result c =
    ReelLemmas.begins_sound c.args.side c.args.width c.args.height c.from-scale.result c.in_ok-writer.writer c.deref.result.now c.new-2.result.items c.in_ok-writer.ensures c.from-scale.ensures

pub returns : goal.returns
returns c =
    ReelLemmas.begins c.args.side c.args.width c.args.height c.from-scale.result c.in_ok-writer.writer (palette c.args.classic) c.deref.result.now c.new-2.result.items c.in_ok-writer.ensures
    (c.deref.ensures.value ∙ c.in_ok-palette.ensures.shares)
