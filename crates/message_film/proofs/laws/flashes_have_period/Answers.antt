use Rattle.message_film.proofs.PeriodLemmas
use Rattle.message_film.proofs.laws.flashes_have_period.Goals as goal

pub returns : goal.returns
returns c = PeriodLemmas.flashes_have_period
