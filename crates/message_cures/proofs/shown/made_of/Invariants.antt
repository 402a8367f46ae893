use Rattle.std.proofs.Common.{◌≡◌, ◌++◌, drop}
use Rattle.message_cures.specs.Shown.{made_from}
use Rattle.message_cures.specs.declared.shown.Place.TheVariants.{Text}
use Rattle.message_cures.proofs.shown.made_of.Given as goal

abbrev pub invariant-loop-at : goal.invariant-loop-at
invariant-loop-at l = l.out.items ++ made_from l.change l.place (drop l.at l.text) ≡ made_from l.change Text l.text
