use Rattle.multi_judge.proofs.Lemmas.{refl, ◌≤◌, drop, ◌∙◌, arith, rules, gap_here, goes, space_gone, space_inside}
use Rattle.multi_judge.proofs.state.State.go_along_words.Goals as goal

pub returns-clause-run : goal.returns-clause-run
returns-clause-run c = λ sign widths.
    let r = c.read_words-space.ensures in
    let narrow : c.from-gap.result ≤ 255 = first_of (search rules, omega arith) in
    goes sign c.args.cells.now c.args.self.now widths c.advances.ensures.sound c.advances.result.now c.advances.ensures.table c.args.source.now.octets c.args.at c.read_words-space.result.0.len c.from-gap.result c.room.result r.run r.octets
    (omega (arith, c.room.ensures)) c.requires.within (c.from-gap.ensures ∙ c.gap.ensures) narrow c.requires.character c.requires.limited c.room.ensures c.read_words-space.result.0.width r.width _ refl _ c.lengthen.ensures

pub returns-clause-space : goal.returns-clause-space
returns-clause-space c = λ sign widths.
    let r = c.read_words-space.ensures in
    let state = c.args.self.now in
    space_gone sign c.args.cells.now state widths c.advances.ensures.sound c.advances.result.now c.advances.ensures.table c.args.source.now.octets c.args.at c.read_words-space.result.0.len c.from-gap.result
    c.room.result r.run r.octets (omega (arith, c.room.ensures)) (gap_here state) c.read_words-space.result.0.width (c.from-gap.ensures ∙ c.gap.ensures) r.width c.read_words-space.result.1 r.space

pub returns-clause-inside : goal.returns-clause-inside
returns-clause-inside c =
    let r = c.read_words-space.ensures in
    space_inside c.advances.result.now c.from-gap.result (drop c.args.at c.args.source.now.octets) c.read_words-space.result.0.len c.read_words-space.result.0.width r.width c.read_words-space.result.1 r.space
