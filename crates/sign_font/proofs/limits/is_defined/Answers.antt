use Rattle.std.proofs.Common.{rules, tests, ◌≡◌, ◌==◌, ◌∙◌, sym}
use Rattle.std.specs.List.{list_any}
use Rattle.std.proofs.lemmas.Iterator.{YieldsList-from_slice}
use Rattle.std.proofs.lemmas.Iterator.Search.{any_from_yields_List}
use Rattle.sign_font.specs.Sign.{font_of, FontData}
use Rattle.sign_font.specs.declared.parts.FontPart.{FontPart}
use Rattle.sign_font.proofs.FindLemmas.{is_some-find-map}
use Rattle.sign_font.proofs.limits.is_defined.Goals as goal

pub returns : goal.returns
returns c =
    let any : c.any.result ≡ list_any (λ (font : FontPart). font.number == c.args.number) c.args.fonts.now =
    any_from_yields_List (λ (font : FontPart). font.number == c.args.number) _ _ c.any.result c.any.ensures.ran (YieldsList-from_slice c.args.fonts.now cc) (λ x b q k. search (rules, tests)) in
    any ∙ sym (is_some-find-map (λ (font : FontData). font.number == c.args.number) font_of c.args.fonts.now)
