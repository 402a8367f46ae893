use Rattle.std.proofs.Common.{[], refl, arith}
use Rattle.sign_aids.proofs.ExplainLemmas
use Rattle.sign_aids.proofs.HeldLemmas
use Rattle.sign_aids.proofs.NextLemmas
use Rattle.sign_aids.proofs.explain.explain_rest.Goals as goal

pub loop-told-init : goal.loop-told-init
loop-told-init g c =
    ([], ExplainLemmas.explained_none c.args.asker.now c.args.place _ _ c.new-2.result c.in-Ok.gathered.ready.items c.new-2.ensures c.in-Ok.ensures, record { mended = refl; warnings = refl }, HeldLemmas.held_none c.args.place c.new-2.result c.new-2.ensures c.requires, omega arith, omega arith)

pub returns-in_default : goal.returns-in_default
returns-in_default g c =
    NextLemmas.begins_none c.args.asker.now c.args.place (g.R.Read.remaining c.args.reader.now) (g.W.Write.contents c.args.writer.now)

pub loop-told-preserved-in-Ok-Whole : goal.loop-told-preserved-in-Ok-Whole
loop-told-preserved-in-Ok-Whole g c =
    let (tolds, so_far, counted, held, few, fewer) = c.loop-told.invariant in
    let next = rw c.in-Ok-Whole.field-0-is at c.in-Ok-Whole.ensures.explains in
    let (left, parts, further) = rw c.in-Ok-Whole.field-0-is at c.in-Ok-Whole.ensures.further in
    let more = c.with-counts.ensures in
    let told = c.in-Ok-Whole.told in
    let one = ExplainLemmas.one_at_most told.is_taken in
    let other = ExplainLemmas.proposed_at_most told.proposal in (
      _,
      ExplainLemmas.explained_with c.args.asker.now c.args.place _ _ _ _ _ _ _ _ [] _ _ c.loop-told.counts c.with-counts.result tolds _ told so_far next more.messages more.refused,
      ExplainLemmas.counted_more c.loop-told.counts c.with-counts.result tolds told counted more.mended more.warnings,
      further,
      omega (arith, more.messages, more.refused, few, one),
      omega (arith, more.messages, more.mended, fewer, other),
    )

pub loop-told-preserved : goal.loop-told-preserved
loop-told-preserved g c =
    let (tolds, so_far, counted, held, few, fewer) = c.loop-told.invariant in
    let next = rw c.in-Ok-More.field-0-is at c.in-Ok-More.ensures.explains in
    let (left, more, further) = rw c.in-Ok-More.field-0-is at c.in-Ok-More.ensures.further in
    (tolds, ExplainLemmas.explained_read c.args.asker.now c.args.place _ _ _ _ _ _ _ _ [] _ _ c.loop-told.counts.messages c.loop-told.counts.refused tolds so_far next, counted, further, few, fewer)

pub returns-in-Ok-Last : goal.returns-in-Ok-Last
returns-in-Ok-Last g c =
    let tolds = c.loop-told.invariant.0 in
    let next = rw c.in-Ok-Last.field-0-is at c.in-Ok-Last.ensures.explains in
    let told = c.in-Ok-Last.told in
    ExplainLemmas.explained_last c.args.asker.now c.args.place c.loop-told.unread.place _ _ _ _ _ _ c.loop-told.gathered.ready.items c.loop-told.counts.messages c.loop-told.counts.refused tolds _ told c.with.result c.loop-told.invariant.1 next c.with.ensures.messages c.with.ensures.refused
    (ExplainLemmas.counted_more c.loop-told.counts c.with.result tolds told c.loop-told.invariant.2 c.with.ensures.mended c.with.ensures.warnings)

pub returns-in-Ok-End : goal.returns-in-Ok-End
returns-in-Ok-End g c =
    let (reads, end, writes) = rw c.in-Ok-End.field-0-is at c.in-Ok-End.ensures.explains in
    ExplainLemmas.explained_end c.args.asker.now c.args.place c.loop-told.unread.place _ _ _ _ _ _ c.loop-told.gathered.ready.items c.loop-told.counts c.loop-told.invariant.0 c.loop-told.invariant.1 c.loop-told.invariant.2 reads end writes

pub returns-in-Err : goal.returns-in-Err
returns-in-Err g c =
    NextLemmas.begins_more c.args.asker.now c.args.place c.loop-told.unread.place _ _ _ _ _ _ c.loop-told.gathered.ready.items c.loop-told.counts.messages c.loop-told.counts.refused c.loop-told.invariant.0 c.in-Err.fault c.loop-told.invariant.1 c.in-Err.ensures.explains
