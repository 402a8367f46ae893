use Rattle.message_store.specs.internal.Pool.{moved_start}
use Rattle.message_store.proofs.PlaceLemmas.{one-changed}
use Rattle.message_store.proofs.places.move_starts.Goals as goal

pub loop-index-preserved : goal.loop-index-preserved
loop-index-preserved c =
    one-changed (moved_start c.args.end c.args.len) c.args.starts.now c.loop-index.starts c.loop-index.index 0 _ c.loop-index-test.true c.loop-index.invariant c.moved_start.ensures
