use Rattle.std.proofs.Common.{◌≡◌, ◌++◌, ◌+◌, ◌≤◌, length, subst, ap, ◌∙◌}
use Rattle.gif.specs.Count.{block_octets}
use Rattle.gif.specs.Gif.{picture_head}
use Rattle.gif.specs.Size.{most_of_picture}
use Rattle.gif.proofs.BlockLemmas
use Rattle.gif.proofs.file.packed_picture.Goals as goal

pub returns-clause-size : goal.returns-clause-size
returns-clause-size c =
    let packed = subst (λ d. length c.push_blocks.new.octets.items ≡ length c.push_picture_head.new.octets.items + block_octets (length d)) c.deref.ensures.value c.in_ok-push_blocks.ensures.size in
    subst (λ n. length c.push_blocks.new.octets.items ≤ most_of_picture n) c.requires.whole
    (BlockLemmas.picture_small c.args.width c.args.height c.args.delay (length c.args.pixels.now) c.in_ok-content.content.items c.push_picture_head.new.octets.items c.push_blocks.new.octets.items
    c.in_ok-content.ensures.size (c.in_ok-push_picture_head.ensures ∙ ap (λ o. o ++ picture_head c.args.width c.args.height c.args.delay) c.new-octets.ensures.items) packed)

pub returns-clause-exact : goal.returns-clause-exact
returns-clause-exact c =
    let packed = subst (λ d. length c.push_blocks.new.octets.items ≡ length c.push_picture_head.new.octets.items + block_octets (length d)) c.deref.ensures.value c.in_ok-push_blocks.ensures.size in
    BlockLemmas.picture_exact c.args.width c.args.height c.args.delay c.in_ok-content.content.items c.push_picture_head.new.octets.items c.push_blocks.new.octets.items c.args.pixels.now
    c.in_ok-content.ensures.exact (c.in_ok-push_picture_head.ensures ∙ ap (λ o. o ++ picture_head c.args.width c.args.height c.args.delay) c.new-octets.ensures.items) packed
