use Rattle.std.proofs.Common.{◌≡◌, ◌++◌, map, length}
use Rattle.std.specs.Vec.Iter.{into_iter_items, into_iter_len}
use Rattle.sign_font.specs.Sign.{cell_of, unsized}
use Rattle.sign_font.specs.internal.Font.{AreAtHeight}
use Rattle.sign_font.proofs.font.Font.new.Given as goal

abbrev pub invariant-loop-cell : goal.invariant-loop-cell
invariant-loop-cell l = record {
  so_far : l.yielded ++ into_iter_items l.cell-iterator ≡ into_iter_items l.initial.cell-iterator;
  made : map unsized l.glyphs.items ≡ map cell_of l.yielded;
  heights : AreAtHeight l.info.height l.glyphs.items;
  len : into_iter_len l.cell-iterator ≡ length (into_iter_items l.cell-iterator);
}
