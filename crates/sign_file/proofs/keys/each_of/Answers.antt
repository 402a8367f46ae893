use Rattle.std.proofs.Common.{◌≡◌, ◌<◌, ◌∷◌, ◌++◌, [], length, map, sym, ap, ◌∙◌, arith, get_or, drop, ◌+◌, Some, Vec, Global}
use Rattle.std.proofs.lemmas.List.{map-append}
use Rattle.std.proofs.lemmas.Result.{err_from_is_err_and}
use Rattle.toml.specs.View.{view, items_view}
use Rattle.sign_file.specs.Keys.{each_of, entry_of}
use Rattle.sign_file.proofs.EntryLemmas.{with_front, with_front-none, next_entry, fails_at, all_entries}
use Rattle.sign_file.proofs.keys.each_of.Goals as goal

pub loop-value-init : goal.loop-value-init
loop-value-init g c =
    let read = g.T.Entry.written in
    ap (λ l. with_front (map g.T.Entry.plain l) (each_of read (items_view c.args.array.now.items))) c.new-entries.ensures.items
    ∙ with_front-none (each_of read (items_view c.args.array.now.items))

pub returns-in_err-entry : goal.returns-in_err-entry
returns-in_err-entry g c =
    let p = err_from_is_err_and c.from_residual.result c.from_residual.ensures.1 in
    let values = c.args.array.now.items in
    let i = c.loop-value.value-index in
    let d = c.value-item.result in
    let same = c.deref-value-items.ensures.value in
    let within : i < length values = omega (arith, ap length same) in
    let item : d ≡ get_or values i d = c.value-item.is ∙ ap (λ l. get_or l i d) same in
    rw (p.1, p.2) (fails_at g.T.Entry.plain (λ (v : Vec g.row.T.Denot Global). map g.T.Entry.plain v.items) g.T.Entry.written values i d (map g.T.Entry.plain c.loop-value.entries.items) _ _ within
    (rw item at c.in_err-entry.ensures) c.loop-value.invariant)

pub loop-value-preserved : goal.loop-value-preserved
loop-value-preserved g c =
    let plain = g.T.Entry.plain in
    let read = g.T.Entry.written in
    let values = c.args.array.now.items in
    let i = c.loop-value.value-index in
    let d = c.value-item.result in
    let same = c.deref-value-items.ensures.value in
    let within : i < length values = omega (arith, ap length same) in
    let item : d ≡ get_or values i d = c.value-item.is ∙ ap (λ l. get_or l i d) same in
    let here : entry_of read (view (get_or values i d)) ≡ Some (plain c.in_ok-entry.entry) = ap (λ v. entry_of read (view v)) (sym item) ∙ c.in_ok-entry.ensures in
    let grown : map plain c.push_entry.new.entries.items ≡ map plain c.loop-value.entries.items ++ plain c.in_ok-entry.entry ∷ [] =
    ap (map plain) c.in_ok-push_entry.ensures.ok ∙ map-append plain c.loop-value.entries.items (c.in_ok-entry.entry ∷ []) in
    ap (λ l. with_front l (each_of read (items_view (drop (i + 1) values)))) grown
    ∙ sym (next_entry read values i d (map plain c.loop-value.entries.items) (plain c.in_ok-entry.entry) within here)
    ∙ c.loop-value.invariant

pub returns : goal.returns
returns g c =
    let values = c.args.array.now.items in
    sym c.loop-value.invariant
    ∙ all_entries g.T.Entry.written values c.loop-value.value-index (map g.T.Entry.plain c.loop-value.entries.items) (omega (arith, ap length c.deref-value-items.ensures.value))
