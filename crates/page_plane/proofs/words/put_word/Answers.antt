use Rattle.std.proofs.Common.{◌-◌, length, drop, arith, length-drop}
use Rattle.std.proofs.lemmas.List.{drop_all, take_all}
use Rattle.page_plane.proofs.WordLemmas.{part_put}
use Rattle.page_plane.proofs.words.put_word.Goals as goal

pub returns-clause-bits : goal.returns-clause-bits
returns-clause-bits c = λ place.
    let old = c.args.octets.now in
    let at = c.args.at in
    let all = length-drop at old in
    part_put old _ c.put_first.new.octets _ at c.args.part place c.args.on (omega (arith, c.requires))
    (drop_all (length old - at) (drop at old) (omega (arith, all))) (take_all (length old - at) (drop at old) (omega (arith, all))) c.put_first.ensures.bits
