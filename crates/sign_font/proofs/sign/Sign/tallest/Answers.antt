use Rattle.std.proofs.Common.{rules, ◌≡◌, ◌∙◌, ap, map}
use Rattle.std.specs.List.{reduce}
use Rattle.std.specs.Option.{unwrap_or}
use Rattle.std.specs.Ordering.{nat_cmp, max_by_ordering}
use Rattle.std.proofs.lemmas.Iterator.{YieldsList-from_slice, YieldsList-from_map}
use Rattle.std.proofs.lemmas.Iterator.Consumers.{reduce_from_yields_List}
use Rattle.std.proofs.lemmas.List.Folds.{max_of_map}
use Rattle.sign_font.specs.Sign.{FontData}
use Rattle.sign_font.proofs.FindLemmas.{fold-largest}
use Rattle.sign_font.proofs.sign.Sign.tallest.Goals as goal

pub returns-clause-tallest : goal.returns-clause-tallest
returns-clause-tallest c =
    let fonts = c.args.self.now.fonts in
    let height = λ (font : FontData). font.height in
    let most : c.max.result ≡ reduce (λ p z. max_by_ordering (nat_cmp p z) p z) (map height fonts) =
    reduce_from_yields_List (λ p z. max_by_ordering (nat_cmp p z) p z) _ c.max.result c.max.ensures.ran (YieldsList-from_map _ height (YieldsList-from_slice fonts cc) c.map.ensures.closure (λ x r q k. search rules)) in
    c.unwrap_or.ensures ∙ ap (λ r. unwrap_or r 0) most ∙ max_of_map height fonts ∙ fold-largest height fonts
