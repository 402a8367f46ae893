-- No edit of TOML's tables makes what is nested less deep, and what is put into them is there.
use Rattle.std.proofs.Common.{◌≡◌, ℕ, suc, ◌≤◌, max, Ordering, Less, Equal, Greater, nat_cmp, List, [], ◌∷◌, Option, Some, None, option_map, refl, sym, ap, inl, inr, ◌⊎◌, arith}
use Rattle.std.proofs.lemmas.Bool.{cases_Bool}
use Rattle.std.proofs.lemmas.Option.{none-some, same_Some}
use Rattle.std.specs.Cmp.Lexicographic.{slice_cmp}
use Rattle.toml_parser.specs.Strings.{Key}
use Rattle.toml.specs.Data.{Data, table, Items, no_items, item, no_members, depth, items_depth, members_depth, push_item, same_key}
use Rattle.toml.specs.Tables.{Origin, implicit, dotted, header, Node, value, open_table, open_array, Nodes, no_nodes, node, close, close_node, get_node, insert, replace, Edit, header_node, dot_node, by_header, by_dot, along_header, along_dots, Definition, key_value, std_table, array_table, Expression, new_node, redefine, at_found, at_key, put, Document, define_as, define}
use Rattle.sign_file.proofs.OptionLemmas.{option_map_some}

pub pushed : (items : Items) (last : Data) → items_depth (push_item items last) ≡ max (items_depth items) (depth last)
pushed no_items last = grind arith
pushed (item d items) last = let rest = pushed items last in grind arith

-- how deep the tables are that these nodes stand for
abbrev pub nodes_depth : Nodes → ℕ
nodes_depth ns = members_depth (close ns)

abbrev pub node_depth : Node → ℕ
node_depth x = depth (close_node x)

cases_ordering : (o : Ordering) → (o ≡ Less) ⊎ ((o ≡ Equal) ⊎ (o ≡ Greater))
cases_ordering Less = inl refl
cases_ordering Equal = inr (inl refl)
cases_ordering Greater = inr (inr refl)

none_here : (x : Node) → Some x ≡ None → ⊥
none_here x e = none-some x (sym e)

insert_deep : (k : List ℕ) (x : Node) (ns : Nodes) → get_node k ns ≡ None → nodes_depth (insert k x ns) ≡ max (node_depth x) (nodes_depth ns)
insert_deep k x no_nodes free = refl
insert_deep k x (node l y ns) free =
    elim (cases_ordering (slice_cmp nat_cmp k l)) [
      | inl less ↦ rw less refl
      | inr other ↦ elim other [
        | inl tie ↦ absurd (none_here y (rw tie at free))
        | inr more ↦
            let rest = insert_deep k x ns (rw more at free) in
            rw (more, rest) (grind arith)
      ]
    ]

replace_deep : (k : List ℕ) (x y : Node) (ns : Nodes) → get_node k ns ≡ Some y → node_depth y ≤ node_depth x
    → (nodes_depth ns ≤ nodes_depth (replace k x ns)) × (node_depth x ≤ nodes_depth (replace k x ns))
replace_deep k x y no_nodes there deeper = absurd (none-some y there)
replace_deep k x y (node l z ns) there deeper =
    elim (cases_Bool (same_key k l)) [
      | inl same ↦
          let it : z ≡ y = same_Some z y (rw same at there) in
          let as_deep : node_depth z ≡ node_depth y = ap node_depth it in
          rw same (grind arith, grind arith)
      | inr other ↦
          let rest = replace_deep k x y ns (rw other at there) deeper in
          rw other (grind arith, grind arith)
    ]

-- an edit leaves the tables as deep as they were at least, and so deep
abbrev pub Deepens : ℕ → Edit → Type 0
Deepens least edit = (ns new : Nodes) → edit ns ≡ Some new → (nodes_depth ns ≤ nodes_depth new) × (least ≤ nodes_depth new)

-- how deep what is defined is
abbrev pub deep_of : Definition → ℕ
deep_of (key_value d) = depth d
deep_of std_table = 0
deep_of array_table = 0

new_deep : (what : Definition) → deep_of what ≤ node_depth (new_node what)
new_deep (key_value d) = omega arith
new_deep std_table = omega arith
new_deep array_table = omega arith

redefined : (what : Definition) (x y : Node) → redefine what x ≡ Some y → (node_depth x ≤ node_depth y) × (deep_of what ≤ node_depth y)
redefined (key_value d) x y is = absurd (none-some y is)
redefined std_table (value d) y is = absurd (none-some y is)
redefined std_table (open_table implicit inner) y is = let same = ap node_depth (same_Some (open_table header inner) y is) in (omega (arith, same), omega arith)
redefined std_table (open_table dotted inner) y is = absurd (none-some y is)
redefined std_table (open_table header inner) y is = absurd (none-some y is)
redefined std_table (open_array done last) y is = absurd (none-some y is)
redefined array_table (value d) y is = absurd (none-some y is)
redefined array_table (open_table origin inner) y is = absurd (none-some y is)
redefined array_table (open_array done last) y is =
    let before = push_item done (table (close last)) in
    let same = ap node_depth (same_Some (open_array before no_nodes) y is) in
    let more = pushed before (table no_members) in
    (grind arith, omega arith)

-- a change of the table at a key deepens, if that of the table does
changed_deepens : (least : ℕ) (change : Node → Option Node) → ((x y : Node) → change x ≡ Some y → (node_depth x ≤ node_depth y) × (least ≤ node_depth y)) → (k : List ℕ) (x : Node) (ns new : Nodes)
    → get_node k ns ≡ Some x → option_map (λ y. replace k y ns) (change x) ≡ Some new → (nodes_depth ns ≤ nodes_depth new) × (least ≤ nodes_depth new)
changed_deepens least change deepens k x ns new there is =
    option_map_some (λ y. replace k y ns) (change x) new is λ y changed same.
    let deeper = deepens x y changed in
    let kept = replace_deep k y x ns there deeper.0 in
    let as_deep = ap nodes_depth same in
    (omega (arith, kept.0, as_deep), omega (arith, kept.1, deeper.1, as_deep))

found_deepens : (k : List ℕ) (what : Definition) (ns new : Nodes) (found : Option Node) → get_node k ns ≡ found → at_found k what ns found ≡ Some new
    → (nodes_depth ns ≤ nodes_depth new) × (deep_of what ≤ nodes_depth new)
found_deepens k what ns new None free is =
    let same = ap nodes_depth (same_Some (insert k (new_node what) ns) new is) in
    let deep = insert_deep k (new_node what) ns free in
    let least = new_deep what in
    (grind arith, grind arith)
found_deepens k what ns new (Some x) there is = changed_deepens (deep_of what) (redefine what) (redefined what) k x ns new there is

at_key_deepens : (k : List ℕ) (what : Definition) → Deepens (deep_of what) (at_key k what)
unfolding at_key
at_key_deepens k what ns new is = found_deepens k what ns new (get_node k ns) refl is

module _ (least : ℕ) (edit : Edit) (deepens : Deepens least edit) where
  inside_deepens : (origin : Origin) (inner : Nodes) (y : Node) → option_map (open_table origin) (edit inner) ≡ Some y → (suc (nodes_depth inner) ≤ node_depth y) × (least ≤ node_depth y)
  inside_deepens origin inner y is =
      option_map_some (open_table origin) (edit inner) y is λ new edited same.
      let deep = deepens inner new edited in
      let as_deep = ap node_depth same in
      (omega (arith, deep.0, as_deep), omega (arith, deep.1, as_deep))

  dot_node_deepens : (x y : Node) → dot_node edit x ≡ Some y → (node_depth x ≤ node_depth y) × (least ≤ node_depth y)
  dot_node_deepens (value d) y is = absurd (none-some y is)
  dot_node_deepens (open_table header inner) y is = absurd (none-some y is)
  dot_node_deepens (open_table implicit inner) y is = inside_deepens dotted inner y is
  dot_node_deepens (open_table dotted inner) y is = inside_deepens dotted inner y is
  dot_node_deepens (open_array done last) y is = absurd (none-some y is)

  header_node_deepens : (x y : Node) → header_node edit x ≡ Some y → (node_depth x ≤ node_depth y) × (least ≤ node_depth y)
  header_node_deepens (value d) y is = absurd (none-some y is)
  header_node_deepens (open_table origin inner) y is = inside_deepens origin inner y is
  header_node_deepens (open_array done last) y is =
      option_map_some (open_array done) (edit last) y is λ new edited same.
      let deep = deepens last new edited in
      let as_deep = ap node_depth same in
      let before = pushed done (table (close last)) in
      let after = pushed done (table (close new)) in
      (grind arith, grind arith)

  -- a table that was not there
  made_deepens : (origin : Origin) (k : List ℕ) (ns new : Nodes) → get_node k ns ≡ None → option_map (λ inner. insert k (open_table origin inner) ns) (edit no_nodes) ≡ Some new
      → (nodes_depth ns ≤ nodes_depth new) × (least ≤ nodes_depth new)
  made_deepens origin k ns new free is =
      option_map_some (λ inner. insert k (open_table origin inner) ns) (edit no_nodes) new is λ inner edited same.
      let deep = deepens no_nodes inner edited in
      let put_in = insert_deep k (open_table origin inner) ns free in
      let as_deep = ap nodes_depth same in
      (grind arith, grind arith)

  by_dot_deepens : (k : List ℕ) (ns new : Nodes) (found : Option Node) → get_node k ns ≡ found → by_dot k edit ns found ≡ Some new → (nodes_depth ns ≤ nodes_depth new) × (least ≤ nodes_depth new)
  by_dot_deepens k ns new None free is = made_deepens dotted k ns new free is
  by_dot_deepens k ns new (Some x) there is = changed_deepens least (dot_node edit) dot_node_deepens k x ns new there is

  by_header_deepens : (k : List ℕ) (ns new : Nodes) (found : Option Node) → get_node k ns ≡ found → by_header k edit ns found ≡ Some new → (nodes_depth ns ≤ nodes_depth new) × (least ≤ nodes_depth new)
  by_header_deepens k ns new None free is = made_deepens implicit k ns new free is
  by_header_deepens k ns new (Some x) there is = changed_deepens least (header_node edit) header_node_deepens k x ns new there is

dots_deepen : (least : ℕ) (path : List (List ℕ)) (edit : Edit) → Deepens least edit → Deepens least (along_dots path edit)
unfolding along_dots
dots_deepen least [] edit deepens ns new is = deepens ns new is
dots_deepen least (k ∷ path) edit deepens ns new is = by_dot_deepens least (along_dots path edit) (dots_deepen least path edit deepens) k ns new (get_node k ns) refl is

headers_deepen : (least : ℕ) (path : List (List ℕ)) (edit : Edit) → Deepens least edit → Deepens least (along_header path edit)
unfolding along_header
headers_deepen least [] edit deepens ns new is = deepens ns new is
headers_deepen least (k ∷ path) edit deepens ns new is = by_header_deepens least (along_header path edit) (headers_deepen least path edit deepens) k ns new (get_node k ns) refl is

pub put_deepens : (key : Key) (d : Data) → Deepens (depth d) (put key d)
put_deepens key d = dots_deepen (depth d) key.0 (at_key key.1 (key_value d)) (at_key_deepens key.1 (key_value d))

-- an edit along a path, from which a document is made
along_deepens : (path : List (List ℕ)) (least : ℕ) (edit : Edit) → Deepens least edit → (doc next : Document) (more : List (List ℕ))
    → option_map (λ root. (root, more)) (along_header path edit doc.0) ≡ Some next → (nodes_depth doc.0 ≤ nodes_depth next.0) × (least ≤ nodes_depth next.0)
along_deepens path least edit deepens doc next more is =
    option_map_some (λ root. (root, more)) (along_header path edit doc.0) next is λ root edited same.
    let deep = headers_deepen least path edit deepens doc.0 root edited in
    let as_deep : nodes_depth root ≡ nodes_depth next.0 = ap (λ (n : Document). nodes_depth n.0) same in
    (omega (arith, deep.0, as_deep), omega (arith, deep.1, as_deep))

as_deepens : (doc : Document) (key : Key) (what : Definition) (next : Document) → define_as doc key what ≡ Some next
    → (nodes_depth doc.0 ≤ nodes_depth next.0) × (deep_of what ≤ nodes_depth next.0)
as_deepens doc key (key_value d) next is = along_deepens doc.1 (depth d) (put key d) (put_deepens key d) doc next doc.1 is
as_deepens doc key std_table next is = along_deepens key.0 0 (at_key key.1 std_table) (at_key_deepens key.1 std_table) doc next _ is
as_deepens doc key array_table next is = along_deepens key.0 0 (at_key key.1 array_table) (at_key_deepens key.1 array_table) doc next _ is

pub define_deepens : (doc : Document) (e : Expression) (next : Document) → define doc e ≡ Some next → (nodes_depth doc.0 ≤ nodes_depth next.0) × (deep_of e.1 ≤ nodes_depth next.0)
unfolding define
define_deepens doc e next is = as_deepens doc e.0 e.1 next is
