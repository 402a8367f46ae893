use Rattle.std.proofs.Common.{◌≤◌, ◌+◌, ◌*◌, ◌-◌, [], List, length}
use Rattle.std.specs.Io.KnownBytes.{prepend_known}
use Rattle.message_report.specs.declared.format.Told.{Told}
use Rattle.sign_aids.specs.internal.Explaining.{Explained, IsCounted, IsHeld}
use Rattle.sign_aids.proofs.explain.explain_rest.Given as goal

abbrev pub invariant-loop-told : goal.invariant-loop-told
invariant-loop-told g l = (tolds : List Told) × Explained l.asker l.fn.place l.unread.place (g.R.Read.remaining l.fn.reader) (prepend_known l.unread.block (g.R.Read.remaining l.reader)) (g.W.Write.contents l.fn.writer) (g.W.Write.contents l.writer)
    [] l.gathered.ready.items l.counts.messages l.counts.refused tolds
    × IsCounted l.counts tolds × IsHeld l.unread.place l.unread.block l.unread.seen × (l.counts.refused ≤ l.counts.messages) × (l.counts.mended ≤ l.counts.messages)

abbrev pub decreases-loop-told : goal.decreases-loop-told
decreases-loop-told g l = 2 * l.unread.place.left + 1 - length l.unread.block
