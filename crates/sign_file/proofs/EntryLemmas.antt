-- Tables that are read one after another.
use Rattle.std.proofs.Common.{◌≡◌, ℕ, ◌+◌, ◌<◌, ◌≤◌, List, [], ◌∷◌, ◌++◌, length, get_or, drop, Option, None, Some, Err, refl, sym, ap, ◌∙◌, append_assoc, append-nil}
use Rattle.std.proofs.lemmas.List.{drop_all}
use Rattle.toml.specs.Data.{Data, Items, Members, item}
use Rattle.toml.specs.View.{view, items_view}
use Rattle.toml.specs.declared.value.Value.{Value}
use Rattle.toml.proofs.Views.{items_view-drop}
use Rattle.sign_file.specs.declared.fault.FileFault.{FileFault}
use Rattle.sign_file.specs.declared.fault.FileFault.TheVariants as faults
use Rattle.sign_file.specs.Keys.{Gives, each_of, entry_of, ◌>>=◌}

module _ {A : Type 0} where
  -- these entries, and then those of the rest
  abbrev pub with_front : List A → Option (List A) → Option (List A)
  with_front front None = None
  with_front front (Some entries) = Some (front ++ entries)

  pub with_front-none : (rest : Option (List A)) → with_front [] rest ≡ rest
  with_front-none None = refl
  with_front-none (Some entries) = refl

  -- the rest of the entries, after one that was read
  abbrev then_entry : Option A → Option (List A) → Option (List A)
  then_entry None entries = None
  then_entry (Some entry) None = None
  then_entry (Some entry) (Some entries) = Some (entry ∷ entries)

  in_order : (first : Option A) (others : Option (List A)) → (first >>= λ entry. others >>= λ entries. let o : Option (List A) = Some (entry ∷ entries) in o) ≡ then_entry first others
  in_order None others = refl
  in_order (Some entry) None = refl
  in_order (Some entry) (Some entries) = refl

  each_of-item : (read : Members → Option A) (value : Data) (items : Items) → each_of read (item value items) ≡ then_entry (entry_of read value) (each_of read items)
  unfolding each_of
  each_of-item read value items = in_order (entry_of read value) (each_of read items)

  with_front-entry : (front : List A) (entry : A) (rest : Option (List A)) → with_front front (then_entry (Some entry) rest) ≡ with_front (front ++ entry ∷ []) rest
  with_front-entry front entry None = refl
  with_front-entry front entry (Some entries) = ap (λ l. let o : Option (List A) = Some l in o) (sym (append_assoc front (entry ∷ []) entries))

  module _ (read : Members → Option A) (values : List Value) (i : ℕ) (d : Value) where
    at_value : i < length values → each_of read (items_view (drop i values)) ≡ then_entry (entry_of read (view (get_or values i d))) (each_of read (items_view (drop (i + 1) values)))
    at_value h = ap (each_of read) (items_view-drop values i d h) ∙ each_of-item read _ _

    pub next_entry : (front : List A) (entry : A) → i < length values → entry_of read (view (get_or values i d)) ≡ Some entry
        → with_front front (each_of read (items_view (drop i values))) ≡ with_front (front ++ entry ∷ []) (each_of read (items_view (drop (i + 1) values)))
    next_entry front entry h is =
        ap (with_front front) (at_value h ∙ ap (λ e. then_entry e (each_of read (items_view (drop (i + 1) values)))) is)
        ∙ with_front-entry front entry (each_of read (items_view (drop (i + 1) values)))

    no_entry : (front : List A) → i < length values → entry_of read (view (get_or values i d)) ≡ None
        → with_front front (each_of read (items_view (drop i values))) ≡ None
    no_entry front h is = ap (with_front front) (at_value h ∙ ap (λ e. then_entry e (each_of read (items_view (drop (i + 1) values)))) is)

  -- where an entry isn't read, the array isn't
  pub fails_at : {X Y : Type 0} (seen : X → A) (seen_all : Y → List A) (read : Members → Option A) (values : List Value) (i : ℕ) (d : Value) (front : List A) (e : FileFault) (all : Option (List A)) → i < length values
      → Gives seen (Err e) (entry_of read (view (get_or values i d))) → with_front front (each_of read (items_view (drop i values))) ≡ all → Gives seen_all (Err e) all
  fails_at seen seen_all read values i d front faults.Bad all h is same = sym same ∙ no_entry read values i d front h is
  fails_at seen seen_all read values i d front faults.Memory all h is same = tt

  pub all_entries : (read : Members → Option A) (values : List Value) (i : ℕ) (front : List A) → length values ≤ i → with_front front (each_of read (items_view (drop i values))) ≡ Some front
  unfolding each_of
  all_entries read values i front h =
      ap (λ l. with_front front (each_of read (items_view l))) (drop_all i values h) ∙ ap (λ l. let o : Option (List A) = Some l in o) (append-nil front)
