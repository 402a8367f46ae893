use Rattle.std.proofs.Common.{◌++◌, [], ap, ◌∙◌}
use Rattle.gif.specs.Gif.{head}
use Rattle.gif.proofs.WriterLemmas
use Rattle.gif.proofs.writer.GifWriter.new.Goals as goal

pub invariant_of-result : goal.invariant_of-result
invariant_of-result c =
    let is = c.in_ok-push_head.ensures ∙ ap (λ o. o ++ head c.args.width c.args.height c.args.palette.now) c.new-octets.ensures.items in (
      (c.args.palette.now, [], c.requires.colours, WriterLemmas.begins c.args.width c.args.height c.args.palette.now c.push_head.new.octets.items is),
      WriterLemmas.begins_small c.args.width c.args.height c.args.palette.now c.push_head.new.octets.items c.requires.colours is,
      WriterLemmas.begins_exact c.args.width c.args.height c.args.palette.now c.push_head.new.octets.items c.requires.colours is,
    )

pub returns : goal.returns
returns c =
    let is = c.in_ok-push_head.ensures ∙ ap (λ o. o ++ head c.args.width c.args.height c.args.palette.now) c.new-octets.ensures.items in
    WriterLemmas.so_far c.args.width c.args.height c.args.palette.now [] c.push_head.new.octets.items c.requires.colours
    (WriterLemmas.begins c.args.width c.args.height c.args.palette.now c.push_head.new.octets.items is)
