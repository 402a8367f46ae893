use Rattle.std.proofs.Common.{◌≤◌, length, arith}
use Rattle.message_cures.specs.Shown.{made, made_from}
use Rattle.message_cures.specs.declared.shown.Place.TheVariants.{Text}
use Rattle.message_cures.proofs.ShownLemmas
use Rattle.message_cures.proofs.shown.made_of.Goals as goal

pub returns : goal.returns
unfolding made
returns c =
    let xs = c.args.text.now in
    let past : length xs ≤ c.loop-at.at = omega (arith, c.loop-at-test.false) in
    ShownLemmas.made_all c.args.change c.loop-at.place xs c.loop-at.out.items (made_from c.args.change Text xs) c.loop-at.at past c.loop-at.invariant
