use Rattle.latsefur_c.proofs.HeldLemmas.{saved_held}
use Rattle.latsefur_c.proofs.saved.latsefur_save.Goals as goal

pub returns : goal.returns
returns c = record {
  saved = saved_held _ _ c.in-Some.held.value c.deref.result.now c.args.octets.now c.save_state-outcome.new.octets c.args.count.now c.save_state-outcome.new.count c.save_state-outcome.result
      c.in-Some.ensures.some c.deref.ensures c.of.ensures c.save_state-outcome.ensures;
}
