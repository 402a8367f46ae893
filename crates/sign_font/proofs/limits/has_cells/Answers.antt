use Rattle.std.proofs.Common.{rules, ◌≡◌, ◌∙◌, sym, true, map, length, nat_le}
use Rattle.std.specs.List.{list_all}
use Rattle.std.proofs.lemmas.Bool.{true≢false, lt-leb}
use Rattle.sign_font.specs.Limits.{is_cell}
use Rattle.sign_font.specs.Sign.{cell_of}
use Rattle.sign_font.proofs.LimitLemmas.{cells_decided}
use Rattle.sign_font.proofs.limits.has_cells.Goals as goal
use Rattle.sign_font.proofs.limits.has_cells.Goals.{then-len-le255, else-len-le255}

pub returns-then-are_cells : goal.returns-then-are_cells
returns-then-are_cells c =
    let cells = c.args.font.now.cells.items in
    elim c.if-len-le255.branch [
      | then-len-le255 w ↦
          let count : nat_le (length cells) 255 ≡ true = search rules in
          let all : list_all (is_cell c.args.font.now.height) (map cell_of cells) ≡ true = cc in
          cells_decided c.args.font.now.height cells c.are_cells_rising.result count all cc
      | else-len-le255 w ↦ absurd (true≢false (sym c.if-are_cells.true ∙ w.value-is ∙ lt-leb c.len.result 255 w.if-len-le255.false))
    ]
