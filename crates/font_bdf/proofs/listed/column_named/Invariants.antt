use Rattle.std.proofs.Common.{◌≡◌, true}
use Rattle.std.specs.Prelude.{not}
use Rattle.std.specs.List.{list_all, range_with_len}
use Rattle.std.specs.Str.{bytes_eq}
use Rattle.font_bdf.specs.Lines.{word_at}
use Rattle.font_bdf.proofs.listed.column_named.Given as goal

abbrev pub invariant-loop-column : goal.invariant-loop-column
invariant-loop-column l = list_all (λ column. not (bytes_eq (word_at column l.row) l.name)) (range_with_len 0 l.column) ≡ true
