use Rattle.std.proofs.Common.{◌≡◌, ◌++◌, map, length}
use Rattle.std.specs.Vec.Iter.{into_iter_items, into_iter_len}
use Rattle.sign_font.specs.Sign.{font_of}
use Rattle.sign_font.proofs.sign.make_fonts.Given as goal

abbrev pub invariant-loop-part : goal.invariant-loop-part
invariant-loop-part l = record {
  so_far : l.yielded ++ into_iter_items l.part-iterator ≡ into_iter_items l.initial.part-iterator;
  made : l.fonts.items ≡ map font_of l.yielded;
  len : into_iter_len l.part-iterator ≡ length (into_iter_items l.part-iterator);
}
