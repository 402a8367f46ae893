use Rattle.std.proofs.Common.{ℕ, ◌+◌, List, Bor, sym, ap, ◌∙◌}
use Rattle.std.proofs.lemmas.List.{drop-map, take_rest}
use Rattle.font_bdf.specs.Parts.{texts}
use Rattle.font_bdf.proofs.listing.rows_behind.Goals as goal

pub returns : goal.returns
returns c =
    let rows = c.args.rows.now in
    record {
      rows = ap (λ (bs : List (Bor (List ℕ))). texts bs) (take_rest rows (c.args.place + 1)) ∙ sym (drop-map (λ (b : Bor (List ℕ)). b.now) (c.args.place + 1) rows);
    }
