use Rattle.std.proofs.Common.{[]}
use Rattle.message_store.proofs.StoredLemmas.{filled}
use Rattle.message_store.proofs.store.Store.put_empty.Goals as goal

pub returns-clause-put : goal.returns-clause-put
returns-clause-put c = filled c.args.self.now c.put_slot.new.self c.put_multi.new.self c.put_owner.new.self c.args.index _ [] [] c.requires
    c.put_slot.ensures.put c.put_multi.ensures.put c.put_owner.ensures.put
