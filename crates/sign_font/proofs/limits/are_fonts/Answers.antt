use Rattle.std.proofs.Common.{rules, tests, ◌≡◌, ◌∙◌, sym}
use Rattle.std.specs.List.{list_all}
use Rattle.std.proofs.lemmas.Iterator.{YieldsList-from_slice}
use Rattle.std.proofs.lemmas.Iterator.Search.{all_from_yields_List}
use Rattle.std.proofs.lemmas.List.Folds.{list_all-map}
use Rattle.sign_font.specs.Limits.{is_font}
use Rattle.sign_font.specs.Sign.{font_of}
use Rattle.sign_font.specs.declared.parts.FontPart.{FontPart}
use Rattle.sign_font.proofs.limits.are_fonts.Goals as goal

pub returns : goal.returns
returns c =
    let each : c.all.result ≡ list_all (λ (x : FontPart). is_font (font_of x)) c.args.fonts.now =
    all_from_yields_List (λ (x : FontPart). is_font (font_of x)) _ _ c.all.result c.all.ensures.ran (YieldsList-from_slice c.args.fonts.now cc) (λ x b q k. search (rules, tests)) in
    each ∙ sym (list_all-map (is_font) font_of c.args.fonts.now)
