use Rattle.std.proofs.Common.{arith, sym, ◌+◌, subst}
use Rattle.message_cures.proofs.EditLemmas
use Rattle.message_cures.proofs.difference.edits_of.Goals as goal

pub loop-from-preserved : goal.loop-from-preserved
loop-from-preserved c =
    let text = c.args.text.now in
    let other = c.args.other.now in
    let from = c.loop-from.from in
    let place = c.loop-from.place in
    let left = c.apart-left.result.0 in
    let right = c.apart-left.result.1 in
    let more = c.common-more.result in
    let (so_far, one, two) = c.loop-from.invariant in
    let octets = EditLemmas.cut other place right c.new-octets.result.items c.extend_from_slice.new.self.items c.new-octets.ensures.items c.in_ok-extend_from_slice.ensures.items in
    let next = EditLemmas.one_more text other c.loop-from.edits.items (record { from = from; to = from + left; octets = c.extend_from_slice.new.self }) place right more so_far (omega arith) octets (EditLemmas.same_tails text other (from + left) (place + right) more c.common-more.ensures.same) in (
      subst (λ es. EditLemmas.SoFar text es other (from + left + more) (place + right + more)) (sym c.in_ok-push.ensures.items) next,
      EditLemmas.within text from left more (omega (arith, one, c.apart-left.ensures.one)) c.common-more.ensures.one,
      EditLemmas.within other place right more (omega (arith, two, c.apart-left.ensures.other)) c.common-more.ensures.other,
    )

pub returns : goal.returns
returns c =
    let (so_far, one, other) = c.loop-from.invariant in
    EditLemmas.ended c.args.text.now c.args.other.now c.loop-from.edits.items c.loop-from.from c.loop-from.place so_far (omega (arith, one, c.if-from-text.false)) (omega (arith, c.if-place-other.false))
