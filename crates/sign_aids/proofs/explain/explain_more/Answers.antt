use Rattle.std.proofs.Common.{[], inr, subst, sym}
use Rattle.std.specs.Io.KnownBytes.{prepend_known}
use Rattle.tool_streams.specs.declared.fault.ToolFault.TheVariants as faults
use Rattle.sign_aids.specs.internal.Explaining.{Explained}
use Rattle.sign_aids.proofs.ExplainLemmas
use Rattle.sign_aids.proofs.HeldLemmas
use Rattle.sign_aids.proofs.NextLemmas
use Rattle.sign_aids.proofs.explain.explain_more.Goals as goal

pub returns-in-Err-clause-explains : goal.returns-in-Err-clause-explains
returns-in-Err-clause-explains g c =
    NextLemmas.begins_after c.args.asker.now c.args.unread.now.place _ _ _ _ c.args.unread.now.block _ faults.Write c.in-Err.fault (HeldLemmas.all_held _ c.args.unread.now.block) c.requires.held.most tt (inr c.in-Err.ensures.written)

pub returns-in-Ok-true-clause-explains : goal.returns-in-Ok-true-clause-explains
returns-in-Ok-true-clause-explains g c =
    let place = c.args.unread.now.place in
    let (more, took, grown, some, most) = rw c.in-Ok-true.field-0-test at c.in-Ok-true.ensures.on in
    let reads = HeldLemmas.read_behind (g.R.Read.remaining c.args.reader.now) (g.R.Read.remaining c.read_on.new.reader) c.args.unread.now.block c.read_on.new.block more took grown in
    let written = ExplainLemmas.explained_more_read c.args.asker.now place (prepend_known c.args.unread.now.block (g.R.Read.remaining c.args.reader.now)) (prepend_known c.read_on.new.block (g.R.Read.remaining c.read_on.new.reader)) (g.W.Write.contents c.args.writer.now) (g.W.Write.contents c.write.new.writer) c.args.gathered.now.ready.items reads c.in-Ok.ensures.written in
    subst (λ l. Explained c.args.asker.now place place (prepend_known c.args.unread.now.block (g.R.Read.remaining c.args.reader.now)) (prepend_known c.read_on.new.block (g.R.Read.remaining c.read_on.new.reader)) (g.W.Write.contents c.args.writer.now) (g.W.Write.contents c.write.new.writer) c.args.gathered.now.ready.items l 0 0 []) (sym c.in-Ok.ensures.none) written

pub returns-in_default : goal.returns-in_default
returns-in_default g c =
    record {
      explains = NextLemmas.read_fails c.args.asker.now c.args.unread.now.place _ _ _ _ c.args.gathered.now.ready.items c.in-Err-read_on.fault c.in_default.not-BadLine c.in-Err-read_on.ensures.on c.in-Ok.ensures.written;
      further = tt;
    }

pub returns-in-Ok-tell_last-clause-explains : goal.returns-in-Ok-tell_last-clause-explains
returns-in-Ok-tell_last-clause-explains g c =
    let (taken, reads, end, one, few, some, front) = rw c.in-BadLine.is at c.in-Err-read_on.ensures.unfinished in
    let (same, other) = rw c.in-BadLine.is at c.in-Err-read_on.ensures.on in
    let told = rw c.all.ensures at c.in-Ok-tell_last.ensures in
    NextLemmas.last_told c.args.asker.now c.args.unread.now.place _ _ _ _ _ c.read_on.new.block taken c.args.gathered.now.ready.items c.in-BadLine.line c.in-Ok-tell_last.told reads end one some front same c.in-Ok.ensures.written told

pub returns-in-Err-tell_last-clause-explains : goal.returns-in-Err-tell_last-clause-explains
returns-in-Err-tell_last-clause-explains g c =
    let (taken, reads, end, one, few, some, front) = rw c.in-BadLine.is at c.in-Err-read_on.ensures.unfinished in
    let (same, other) = rw c.in-BadLine.is at c.in-Err-read_on.ensures.on in
    let told = rw c.all.ensures at c.in-Err-tell_last.ensures in
    NextLemmas.last_fails c.args.asker.now c.args.unread.now.place _ _ _ _ _ c.read_on.new.block taken c.args.gathered.now.ready.items c.in-BadLine.line c.in-Err-tell_last.failed reads end one few front same c.in-Ok.ensures.written told
