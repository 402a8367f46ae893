use Rattle.std.proofs.Common.{◌∙◌, ◌++◌, ap, arith, drop, refl, append-nil}
use Rattle.std.proofs.lemmas.List.{take_all}
use Rattle.page_plane.specs.Octets.{is_bit_set}
use Rattle.page_plane.proofs.WordLemmas.{first_put}
use Rattle.page_plane.proofs.words.put_first.Goals as goal

pub returns-clause-bits : goal.returns-clause-bits
returns-clause-bits c = λ place.
    let octets = c.args.octets.now in
    let eight = c.painted_word.result in
    let len = c.painted_word.ensures.len in
    ap (λ l. is_bit_set l place) (c.copy_eight-2.ensures ∙ ap (λ l. l ++ drop 8 octets) (take_all 8 eight (omega (arith, len))))
    ∙ first_put octets c.copy_eight.new.to eight 8 c.args.part place c.args.on refl c.requires (c.copy_eight.ensures ∙ append-nil _) len c.painted_word.ensures.bits
