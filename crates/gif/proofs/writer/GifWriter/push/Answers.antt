use Rattle.std.proofs.Common.{◌++◌, ap, ◌∙◌, subst}
use Rattle.gif.specs.Gif.{Picture}
use Rattle.gif.proofs.WriterLemmas
use Rattle.gif.proofs.WriterLemmas.{IsPushed}
use Rattle.gif.proofs.writer.GifWriter.push.Goals as goal

pub packed_picture-requires-clause-whole : goal.packed_picture-requires-clause-whole
packed_picture-requires-clause-whole c =
    let old = c.self.inside in
    WriterLemmas.whole old.width old.height old.octets.items c.args.pixels.now c.args.self.now c.self.invariant.0 c.self.view_is c.requires.whole

pub invariant_of-self-2 : goal.invariant_of-self-2
invariant_of-self-2 c =
    let old = c.self.inside in
    let grew = c.in_ok-extend_from_slice.ensures.items ∙ ap (λ p. old.octets.items ++ p) c.deref.ensures.value in
    let pushed = WriterLemmas.pushed old.width old.height old.octets.items c.extend_from_slice.new.self.items c.in_ok-picture.picture.items c.args.delay c.args.pixels.now c.self.invariant.0 c.in_ok-picture.ensures.picture grew in (
      pushed.film,
      WriterLemmas.pushed_small old.width old.height old.octets.items c.extend_from_slice.new.self.items c.in_ok-picture.picture.items _ c.self.invariant.0 pushed grew c.in_ok-picture.ensures.size c.self.invariant.1,
      WriterLemmas.pushed_exact old.width old.height old.octets.items c.extend_from_slice.new.self.items c.in_ok-picture.picture.items c.args.delay c.args.pixels.now pushed grew c.in_ok-picture.ensures.exact c.self.invariant.2,
    )

pub returns : goal.returns
returns c =
    let old = c.self.inside in
    let grew = c.in_ok-extend_from_slice.ensures.items ∙ ap (λ p. old.octets.items ++ p) c.deref.ensures.value in
    let picture : Picture = record { delay = c.args.delay; pixels = c.args.pixels.now } in
    let pushed = subst (λ film. IsPushed old.width old.height film c.extend_from_slice.new.self.items picture) c.self.view_is
    (WriterLemmas.pushed old.width old.height old.octets.items c.extend_from_slice.new.self.items c.in_ok-picture.picture.items c.args.delay c.args.pixels.now c.self.invariant.0 c.in_ok-picture.ensures.picture grew) in
    record {
      pictures = pushed.pictures;
      size = pushed.size;
      palette = pushed.palette;
      refused = tt;
    }
