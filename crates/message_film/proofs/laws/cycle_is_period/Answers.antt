use Rattle.message_film.proofs.PeriodLemmas
use Rattle.message_film.proofs.laws.cycle_is_period.Goals as goal

pub returns : goal.returns
returns c = PeriodLemmas.cycle_is_period
