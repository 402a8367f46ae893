use Rattle.multi_judge.proofs.Lemmas.{refl, ◌≤◌, ◌∙◌, arith, rules, goes}
use Rattle.multi_judge.proofs.state.State.go_along.Goals as goal

pub returns-clause-run : goal.returns-clause-run
returns-clause-run c = λ sign widths.
    let r = c.read_run-run.ensures in
    let narrow : c.from-gap.result ≤ 255 = first_of (search rules, omega arith) in
    goes sign c.args.cells.now c.args.self.now widths c.advances.ensures.sound c.advances.result.now c.advances.ensures.table c.args.source.now.octets c.args.at c.read_run-run.result.len c.from-gap.result c.room.result r.run r.octets
    (omega (arith, c.room.ensures)) c.requires.within (c.from-gap.ensures ∙ c.gap.ensures) narrow c.requires.character c.requires.limited c.room.ensures c.read_run-run.result.width r.width _ refl _ c.lengthen.ensures
