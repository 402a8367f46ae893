use Rattle.std.proofs.Common.{rules, tests, ◌≡◌, ◌∙◌, sym}
use Rattle.std.specs.List.{list_all}
use Rattle.std.proofs.lemmas.Iterator.{YieldsList-from_slice}
use Rattle.std.proofs.lemmas.Iterator.Search.{all_from_yields_List}
use Rattle.std.proofs.lemmas.List.Folds.{list_all-map}
use Rattle.sign_font.specs.Limits.{is_cell}
use Rattle.sign_font.specs.Sign.{cell_of}
use Rattle.sign_font.specs.declared.parts.CellPart.{CellPart}
use Rattle.sign_font.proofs.limits.are_cells.Goals as goal

pub returns : goal.returns
returns c =
    let each : c.all.result ≡ list_all (λ (x : CellPart). is_cell c.args.height (cell_of x)) c.args.cells.now =
    all_from_yields_List (λ (x : CellPart). is_cell c.args.height (cell_of x)) _ _ c.all.result c.all.ensures.ran (YieldsList-from_slice c.args.cells.now cc) (λ x b q k. search (rules, tests)) in
    each ∙ sym (list_all-map (is_cell c.args.height) cell_of c.args.cells.now)
