use Rattle.std.proofs.Common.{◌++◌, ◌∙◌, ap, string_bytes}
use Rattle.sign_words.specs.Names.{place_text}
use Rattle.sign_words.specs.Told.{quoted}
use Rattle.sign_words.proofs.ToldLemmas.{then}
use Rattle.sign_words.proofs.members.push_place_text.Goals as goal

pub returns : goal.returns
returns c = then _ _ c.push_quoted.result c.push_quoted.ensures (λ e. e ∙ ap (λ l. string_bytes c.args.text.now ++ quoted l) (c.as_str.ensures.value ∙ c.in_ok-push_place.ensures ∙ ap (λ l. l ++ place_text c.args.place) c.new-table.ensures.bytes))
