use Rattle.std.proofs.Common.{sym, ap, ◌∙◌}
use Rattle.message_film.specs.Period.{flash_time}
use Rattle.message_film.proofs.period.item_time.Goals as goal

pub returns-in-Some-clause-time : goal.returns-in-Some-clause-time
returns-in-Some-clause-time c = λ means is. c.tag_time.ensures.time ∙ ap (flash_time c.args.sign.now.defaults) (sym (rw c.in-Some.is at is))

pub returns-in-None-clause-time : goal.returns-in-None-clause-time
returns-in-None-clause-time c = λ means is. let (code, fault) = (rw c.in-None.is at is) in sym (ap (flash_time c.args.sign.now.defaults) fault)
