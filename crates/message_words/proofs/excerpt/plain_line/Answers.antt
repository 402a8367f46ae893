use Rattle.std.proofs.Common.{refl, take, ap, ◌∙◌}
use Rattle.std.proofs.lemmas.List.{take_min}
use Rattle.message_words.proofs.excerpt.plain_line.Goals as goal

pub returns-clause-shown : goal.returns-clause-shown
returns-clause-shown c = (ap (λ n. take n c.args.message.now) c.min.ensures ∙ take_min 76 c.args.message.now, refl)
