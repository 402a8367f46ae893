use Rattle.std.proofs.Common.{◌≡◌, map, drop}
use Rattle.toml.specs.View.{items_view}
use Rattle.sign_file.specs.Keys.{each_of}
use Rattle.sign_file.proofs.EntryLemmas.{with_front}
use Rattle.sign_file.proofs.keys.each_of.Given as goal

abbrev pub invariant-loop-value : goal.invariant-loop-value
invariant-loop-value g l =
    with_front (map g.T.Entry.plain l.entries.items) (each_of g.T.Entry.written (items_view (drop l.value-index l.array.items)))
    ≡ each_of g.T.Entry.written (items_view l.array.items)
