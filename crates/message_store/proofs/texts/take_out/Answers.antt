use Rattle.std.proofs.Common.{◌+◌, sym}
use Rattle.message_store.proofs.PoolLemmas.{none-moved}
use Rattle.message_store.proofs.texts.take_out.Goals as goal

pub returns-then-span-eq0-clause-places : goal.returns-then-span-eq0-clause-places
returns-then-span-eq0-clause-places c = sym (none-moved (c.args.span.start + c.args.span.len) c.args.span.len c.args.places.now c.if-span-eq0.true)
