use Rattle.std.proofs.Common.{Some, drop, refl, ap, ◌∙◌, eqb}
use Rattle.std.specs.Option.{option_eq}
use Rattle.std.proofs.lemmas.Bool.{false≢true}
use Rattle.multi_token.specs.Spelling.{HasNoItem}
use Rattle.multi_token.proofs.PlaceLemmas.{none_closing}
use Rattle.multi_token.proofs.token.close_bracket.Goals as goal

pub returns-else-eq-clause-fault : goal.returns-else-eq-clause-fault
returns-else-eq-clause-fault c =
    let xs = c.args.source.now.octets in
    let no : HasNoItem (drop c.args.at xs) = none_closing xs c.args.at c.requires.stands (λ e. false≢true (c.if-eq.ensures ∙ ap (λ o. option_eq eqb o (Some 93)) (c.read.ensures.octet ∙ e))) in
    (refl, no, c.read.ensures.step)
