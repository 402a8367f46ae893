-- What the look at nesting passes over: values, lines and documents.
use Rattle.std.proofs.Common.{◌≡◌, ℕ, zero, suc, ◌+◌, ◌≤◌, max, true, false, ◌||◌, ◌==◌, List, [], ◌∷◌, ◌++◌, length, drop, slice_index, Option, Some, refl, sym, ap, subst, ◌∙◌, inl, inr, arith}
use Rattle.std.specs.Prelude.{All}
use Rattle.std.specs.List.{AllByRecursion}
use Rattle.std.proofs.lemmas.Bool.{cases_Bool}
use Rattle.std.proofs.lemmas.Bool.Decides.{nat_tests}
use Rattle.std.proofs.lemmas.List.Elements.{All-weaker, recursion_from_All}
use Rattle.std.proofs.lemmas.Option.{none-some, same_Some, some_pair_parts, option_and_then_some}
use lib.Seq.{get_or-drop, drop-drop}
use Rattle.toml_parser.specs.Lexical.{Read, first, skip_blank, skip_ws}
use Rattle.toml_parser.specs.Numbers.{unquoted}
use Rattle.toml_parser.specs.Strings.{Key, key, key_after, quoted, recursion_limit, simple_key, starts_string}
use Rattle.toml.specs.Data.{Data, Items, no_items, Members, depth, items_depth, members_depth, push_item}
use Rattle.toml.specs.Tables.{Nodes, no_nodes, array_table, close, Expression, Document, put, define}
use Rattle.toml.specs.Parse.{after_byte, after_element, atom, ends_line, expression, header_key, items, key_equals, keyval, line, lines, members, parse_document, skip_bom, val}
use Rattle.sign_file.specs.Nesting.{closes}
use Rattle.sign_file.specs.Names.{names, names_in, names_of_pair, names_of_items, names_of_members, names_of_value, names_of_line, names_of_lines}
use Rattle.sign_file.proofs.PassedOver.{IsOk, over_ok, string_ok, end_ok, opening_ok, closing_ok, fewer_ok, reset_ok, ws_ok, blank_ok, line_end_ok}
use Rattle.sign_file.proofs.OptionLemmas.{option_map_some, read_map_some, beside_some}
use Rattle.sign_file.proofs.PassedWords.{unquoted_ok}
use Rattle.sign_file.proofs.PassedKeys.{key_ok}
use Rattle.sign_file.proofs.Depths.{pushed, nodes_depth, deep_of, put_deepens, define_deepens}

-- no name has more than this many dots
abbrev pub AreShort : ℕ → List Key → Type 0
AreShort most names = AllByRecursion (λ (name : Key). length name.0 ≤ most) names

both_short : (most : ℕ) (some others : List Key) → AreShort most (some ++ others) → AreShort most some × AreShort most others
both_short most [] others short = (tt, short)
both_short most (name ∷ some) others short =
    let rest = both_short most some others short.1 in
    ((short.0, rest.0), rest.1)

-- the names in what was read are short, and those before them
short_in : {A : Type 0} (most : ℕ) (found : Option A) (more : A → List Key) (read : A) → found ≡ Some read → AreShort most (names_in found more) → AreShort most (more read)
short_in most found more read is short = subst (λ o. AreShort most (names_in o more)) is short

short_parts : {A : Type 0} (most : ℕ) (some : List Key) (found : Option A) (more : A → List Key) (read : A) → found ≡ Some read → AreShort most (some ++ names_in found more)
    → AreShort most some × AreShort most (more read)
short_parts most some found more read is short =
    let parts = both_short most some (names_in found more) short in
    (parts.0, short_in most found more read is parts.1)

-- the byte that had to stand at the front
after_byte_is : (byte : ℕ) (text rest : List ℕ) → after_byte byte text ≡ Some rest → (first text ≡ byte) × (drop 1 text ≡ rest)
after_byte_is byte text rest read =
    elim (cases_Bool (first text == byte)) [
      | inl is ↦ (grind (arith, nat_tests), same_Some (drop 1 text) rest (rw is at read))
      | inr other ↦ absurd (none-some rest (rw other at read))
    ]

-- the bracket that had to stand at the front
closed_ok : {most opened dots : ℕ} (text rest : List ℕ) → after_byte 93 text ≡ Some rest → suc opened ≤ 16 → dots ≤ most → IsOk most opened 0 rest → IsOk most (suc opened) dots text
closed_ok {most = most} {opened = opened} text rest read small few ok =
    let (start, next) = after_byte_is 93 text rest read in
    closing_ok text small few (rw start refl) (subst (IsOk most opened 0) (sym next) ok)

key_equals_ok : {most opened : ℕ} (text : List ℕ) (k : Key) (rest : List ℕ) → key_equals text ≡ Some (k, rest) → length k.0 ≤ most → IsOk most opened 0 rest → IsOk most opened 0 text
unfolding key_equals
key_equals_ok {most = most} {opened = opened} text k rest read short ok =
    option_and_then_some _ (key text) (k, rest) read λ found is more.
    option_map_some _ (after_byte 61 found.1) (k, rest) more λ behind equals same.
    let (start, next) = after_byte_is 61 found.1 behind equals in
    let skipped : skip_ws behind ≡ rest = ap (λ p. p.1) same in
    let as_long : length found.0.0 ≡ length k.0 = ap (λ p. length p.0.0) same in
    let at_value : IsOk most opened 0 (drop 1 found.1) = rw next (ws_ok behind (rw skipped ok)) in
    key_ok text found.0 found.1 is (rw start refl) (end_ok found.1 (omega arith) (rw start refl) at_value)

-- a comma or a closing bracket
after_element_ok : {most opened : ℕ} (closing : ℕ) (text rest : List ℕ) → (closing == 93 || closing == 125) ≡ true → after_element closing text ≡ Some rest → IsOk most opened 0 rest → IsOk most opened most text
unfolding after_element
after_element_ok {most = most} {opened = opened} closing text rest bracket read ok =
    let start = skip_blank text in
    elim (cases_Bool (first start == 44)) [
      | inl comma ↦
          let behind : IsOk most opened 0 (drop 1 start) = subst (IsOk most opened 0) (sym (same_Some (drop 1 start) rest (rw comma at read))) ok in
          blank_ok text (end_ok start (omega arith) (grind (arith, nat_tests)) behind)
      | inr no_comma ↦ elim (cases_Bool (first start == closing)) [
        | inl closes_here ↦
            let at_bracket : IsOk most opened 0 start = subst (IsOk most opened 0) (sym (same_Some start rest (rw (no_comma, closes_here) at read))) ok in
            blank_ok text (reset_ok 0 most start (omega arith) (grind (arith, nat_tests)) (grind (arith, nat_tests)) at_bracket)
        | inr other ↦ absurd (none-some rest (rw (no_comma, other) at read))
      ]
    ]

-- the bracket after the last element
last_ok : {most opened : ℕ} (text rest : List ℕ) → closes (first (skip_blank text)) ≡ true → drop 1 (skip_blank text) ≡ rest → suc opened ≤ 16 → IsOk most opened most rest → IsOk most (suc opened) 0 text
last_ok {most = most} {opened = opened} text rest closing next small ok =
    let behind = fewer_ok 0 most (drop 1 (skip_blank text)) (omega arith) (subst (IsOk most opened most) (sym next) ok) in
    blank_ok text (closing_ok (skip_blank text) small (omega arith) closing behind)

-- a reading of values, with the names inside them: what is nested fits, if what is read isn't nested too deep and no name is too long
abbrev IsFine : ℕ → (List ℕ → Read Data) → (List ℕ → List Key) → Type 0
IsFine most read inside =
    (opened : ℕ) (text : List ℕ) (d : Data) (rest : List ℕ) → read text ≡ Some (d, rest) → opened + depth d ≤ 16 → AreShort most (inside text) → IsOk most opened most rest → IsOk most opened 0 text

module _ (most : ℕ) (read : List ℕ → Read Data) (inside : List ℕ → List Key) (fine : IsFine most read inside) where
  keyval_ok : (opened : ℕ) (text : List ℕ) (pair : Key × Data) (rest : List ℕ) → keyval read text ≡ Some (pair, rest) → opened + depth pair.1 ≤ 16 → AreShort most (names_of_pair read inside text)
      → IsOk most opened most rest → IsOk most opened 0 text
  keyval_ok opened text pair rest is small short ok =
      option_and_then_some _ (key_equals text) (pair, rest) is λ k before more.
      read_map_some _ (read k.1) pair rest more λ value here same.
      let as_deep : depth value ≡ depth pair.1 = ap (λ p. depth p.1) same in
      let short_names = short_in most (key_equals text) (λ found. found.0 ∷ inside found.1) k before short in
      key_equals_ok text k.0 k.1 before short_names.0 (fine opened k.1 value rest here (omega (arith, as_deep)) short_names.1 ok)

  items_ok : (n : ℕ) (found : Items) (text : List ℕ) (all : Items) (rest : List ℕ) (opened : ℕ) → items read n found text ≡ Some (all, rest) → suc opened + items_depth all ≤ 16
      → AreShort most (names_of_items read inside n text) → IsOk most opened most rest → IsOk most (suc opened) 0 text × (items_depth found ≤ items_depth all)
  unfolding items names_of_items
  items_ok zero found text all rest opened is small short ok = absurd (none-some _ is)
  items_ok (suc n) found text all rest opened is small short ok =
      let start = skip_blank text in
      elim (cases_Bool (first start == 93)) [
        | inl closing ↦
            let same = some_pair_parts found all (drop 1 start) rest (rw closing at is) in
            let as_deep = ap items_depth same.0 in
            (last_ok text rest (grind (arith, nat_tests)) same.1 (omega arith) ok, omega (arith, as_deep))
        | inr other ↦
            option_and_then_some _ (read start) (all, rest) (rw other at is) λ value here more.
            option_and_then_some _ (after_element 93 value.1) (all, rest) more λ next element going.
            let (short_here, short_after) = short_parts most (inside start) (read start) _ value here (rw other at short) in
            let short_rest = short_in most (after_element 93 value.1) (names_of_items read inside n) next element short_after in
            let ahead = items_ok n (push_item found value.0) next all rest opened going small short_rest ok in
            let deep = pushed found value.0 in
            let behind = after_element_ok 93 value.1 next refl element ahead.0 in
            (blank_ok text (fine (suc opened) start value.0 value.1 here (grind arith) short_here behind), grind arith)
      ]

  members_ok : (n : ℕ) (found : Nodes) (text : List ℕ) (all : Members) (rest : List ℕ) (opened : ℕ) → members read n found text ≡ Some (all, rest) → suc opened + members_depth all ≤ 16
      → AreShort most (names_of_members read inside n text) → IsOk most opened most rest → IsOk most (suc opened) 0 text × (nodes_depth found ≤ members_depth all)
  unfolding members names_of_members
  members_ok zero found text all rest opened is small short ok = absurd (none-some _ is)
  members_ok (suc n) found text all rest opened is small short ok =
      let start = skip_blank text in
      elim (cases_Bool (first start == 125)) [
        | inl closing ↦
            let same = some_pair_parts (close found) all (drop 1 start) rest (rw closing at is) in
            let as_deep : nodes_depth found ≡ members_depth all = ap members_depth same.0 in
            (last_ok text rest (grind (arith, nat_tests)) same.1 (omega arith) ok, omega (arith, as_deep))
        | inr other ↦
            option_and_then_some _ (keyval read start) (all, rest) (rw other at is) λ pair here more.
            option_and_then_some _ (put pair.0.0 pair.0.1 found) (all, rest) more λ new done going.
            option_and_then_some _ (after_element 125 pair.1) (all, rest) going λ next element last.
            let (short_here, short_after) = short_parts most (names_of_pair read inside start) (keyval read start) _ pair here (rw other at short) in
            let short_rest = short_in most (after_element 125 pair.1) (names_of_members read inside n) next element short_after in
            let ahead = members_ok n new next all rest opened last small short_rest ok in
            let deep = put_deepens pair.0.0 pair.0.1 found new done in
            let behind = after_element_ok 125 pair.1 next refl element ahead.0 in
            (blank_ok text (keyval_ok (suc opened) start pair.0 pair.1 here (omega (arith, deep.1, ahead.1)) short_here behind), omega (arith, deep.0, ahead.1))
      ]

module _ (most : ℕ) (some : 1 ≤ most) where
  atom_ok : (opened : ℕ) (text : List ℕ) (d : Data) (rest : List ℕ) → atom text ≡ Some (d, rest) → IsOk most opened most rest → IsOk most opened 0 text
  unfolding atom
  atom_ok opened text d rest is ok =
      elim (cases_Bool (starts_string text)) [
        | inl starts ↦
            read_map_some _ (quoted text) d rest (rw starts at is) λ string here same. string_ok text string rest starts here (fewer_ok 0 most rest (omega arith) ok)
        | inr no_string ↦
            read_map_some _ (unquoted text) d rest (rw no_string at is) λ scalar here same. unquoted_ok text scalar rest some here ok
      ]

  val_ok : (n : ℕ) → IsFine most (val n) (names_of_value n)
  unfolding val names_of_value
  val_ok zero opened text d rest is small short ok = atom_ok opened text d rest is ok
  val_ok (suc n) opened text d rest is small short ok =
      elim (cases_Bool (first text == 91)) [
        | inl bracket ↦
            read_map_some _ (items (val n) (length text) no_items (drop 1 text)) d rest (rw bracket at is) λ all here same.
            let as_deep : suc (items_depth all) ≡ depth d = ap depth same in
            let within = items_ok most (val n) (names_of_value n) (val_ok n) (length text) no_items (drop 1 text) all rest opened here (omega (arith, as_deep)) (rw bracket at short) ok in
            opening_ok text (omega arith) (grind (arith, nat_tests)) within.0
        | inr no_bracket ↦ elim (cases_Bool (first text == 123)) [
          | inl brace ↦
              read_map_some _ (members (val n) (length text) no_nodes (drop 1 text)) d rest (rw (no_bracket, brace) at is) λ all here same.
              let as_deep : suc (members_depth all) ≡ depth d = ap depth same in
              let within = members_ok most (val n) (names_of_value n) (val_ok n) (length text) no_nodes (drop 1 text) all rest opened here (omega (arith, as_deep)) (rw (no_bracket, brace) at short) ok in
              opening_ok text (omega arith) (grind (arith, nat_tests)) within.0
          | inr neither ↦ atom_ok opened text d rest (rw (no_bracket, neither) at is) ok
        ]
      ]

  -- the key of a header and its first closing bracket
  header_key_ok : (opened : ℕ) (text : List ℕ) (k : Key) (rest : List ℕ) → header_key text ≡ Some (k, rest) → suc opened ≤ 16 → length k.0 ≤ most → IsOk most opened 0 rest
      → IsOk most (suc opened) 0 text
  unfolding header_key
  header_key_ok opened text k rest is small short ok =
      option_and_then_some _ (key (skip_ws text)) (k, rest) is λ found here more.
      beside_some found.0 k (after_byte 93 found.1) rest more λ closing same.
      let as_long : length found.0.0 ≡ length k.0 = ap (λ q. length q.0) same in
      let start = (after_byte_is 93 found.1 rest closing).0 in
      ws_ok text (key_ok (skip_ws text) found.0 found.1 here (rw start refl) (closed_ok found.1 rest closing small (omega arith) ok))

  expression_ok : (text : List ℕ) (e : Expression) (rest : List ℕ) → expression text ≡ Some (e, rest) → deep_of e.1 ≤ 16 → AreShort most (names_of_line text) → IsOk most 0 most rest → IsOk most 0 0 text
  unfolding expression names_of_line
  expression_ok text e rest is small short ok =
      let fewer = fewer_ok 0 most rest (omega arith) ok in
      elim (cases_Bool (first text == 91)) [
        | inl bracket ↦
            elim (cases_Bool (slice_index text 1 == 91)) [
              | inl second ↦
                  option_and_then_some _ (header_key (drop 2 text)) (e, rest) (rw (bracket, second) at is) λ k here more.
                  beside_some (k.0, array_table) e (after_byte 93 k.1) rest more λ closing same.
                  let short_name = short_in most (header_key (drop 2 text)) (λ found. found.0 ∷ []) k here (rw (bracket, second) at short) in
                  let at_key = header_key_ok 1 (drop 2 text) k.0 k.1 here (omega arith) short_name.0 (closed_ok k.1 rest closing (omega arith) (omega arith) fewer) in
                  let two : drop 1 (drop 1 text) ≡ drop 2 text = drop-drop 1 1 text in
                  let inner : first (drop 1 text) ≡ 91 = get_or-drop 1 text 0 0 ∙ grind (arith, nat_tests) in
                  opening_ok text (omega arith) (grind (arith, nat_tests)) (opening_ok (drop 1 text) (omega arith) (rw inner refl) (subst (IsOk most 2 0) (sym two) at_key))
              | inr one ↦
                  read_map_some _ (header_key (drop 1 text)) e rest (rw (bracket, one) at is) λ k here same.
                  let short_name = short_in most (header_key (drop 1 text)) (λ found. found.0 ∷ []) (k, rest) here (rw (bracket, one) at short) in
                  opening_ok text (omega arith) (grind (arith, nat_tests)) (header_key_ok 0 (drop 1 text) k rest here (omega arith) short_name.0 fewer)
            ]
        | inr no_bracket ↦
            read_map_some _ (keyval (val recursion_limit) text) e rest (rw no_bracket at is) λ pair here same.
            let as_deep : depth pair.1 ≡ deep_of e.1 = ap (λ p. deep_of p.1) same in
            keyval_ok most (val recursion_limit) (names_of_value recursion_limit) (val_ok recursion_limit) 0 text pair rest here (omega (arith, as_deep)) (rw no_bracket at short) ok
      ]

  -- no line begins with a carriage return alone
  no_return : (text : List ℕ) (e : Expression) (rest : List ℕ) → line text ≡ Some (e, rest) → (first text == 13) ≡ false
  unfolding line expression key_equals key_after simple_key
  no_return text e rest is =
      elim (cases_Bool (first text == 13)) [
        | inl return ↦
            let start : first text ≡ 13 = grind (arith, nat_tests) in
            absurd (none-some _ (rw start at is))
        | inr other ↦ other
      ]

  line_ok : (text : List ℕ) (e : Expression) (rest : List ℕ) → line text ≡ Some (e, rest) → deep_of e.1 ≤ 16 → AreShort most (names_of_line text) → (first (skip_blank rest) == 13) ≡ false
      → IsOk most 0 0 (skip_blank rest) → IsOk most 0 0 text
  unfolding line
  line_ok text e rest is small short begins ok =
      option_and_then_some _ (expression text) (e, rest) is λ read here more.
      elim (cases_Bool (ends_line (skip_ws read.1))) [
        | inl ends ↦
            let same : read ≡ (e, rest) = same_Some read (e, rest) (rw ends at more) in
            let ends_here : ends_line (skip_ws rest) ≡ true = subst (λ (r : Expression × List ℕ). ends_line (skip_ws r.1) ≡ true) same ends in
            let read_here : expression text ≡ Some (e, rest) = here ∙ ap (λ (r : Expression × List ℕ). Some r) same in
            expression_ok text e rest read_here small short (line_end_ok rest (omega arith) ends_here begins ok)
        | inr other ↦ absurd (none-some _ (rw other at more))
      ]

  empty_ok : (text : List ℕ) → length text ≡ 0 → IsOk most 0 0 text × ((first text == 13) ≡ false)
  empty_ok [] none = (over_ok [] (omega arith) (omega arith) refl, refl)
  empty_ok (c ∷ cs) some = absurd (omega (arith, some))

  lines_ok : (n : ℕ) (doc : Document) (text : List ℕ) (last : Document) → lines n doc text ≡ Some last → nodes_depth last.0 ≤ 16 → AreShort most (names_of_lines n text)
      → IsOk most 0 0 (skip_blank text) × ((first (skip_blank text) == 13) ≡ false) × (nodes_depth doc.0 ≤ nodes_depth last.0)
  unfolding lines names_of_lines
  lines_ok zero doc text last is small short = absurd (none-some _ is)
  lines_ok (suc n) doc text last is small short =
      let start = skip_blank text in
      elim (cases_Bool (length start == 0)) [
        | inl none ↦
            let as_deep : nodes_depth doc.0 ≡ nodes_depth last.0 = ap (λ (d : Document). nodes_depth d.0) (same_Some doc last (rw none at is)) in
            let empty = empty_ok start (grind (arith, nat_tests)) in
            (empty.0, empty.1, omega (arith, as_deep))
        | inr more_lines ↦
            option_and_then_some _ (line start) last (rw more_lines at is) λ e here more.
            option_and_then_some _ (define doc e.0) last more λ next defined going.
            let (short_here, short_after) = short_parts most (names_of_line start) (line start) _ e here (rw more_lines at short) in
            let ahead = lines_ok n next e.1 last going small short_after in
            let deep = define_deepens doc e.0 next defined in
            (line_ok start e.0 e.1 here (omega (arith, deep.1, ahead.2)) short_here ahead.1 ahead.0, no_return start e.0 e.1 here, omega (arith, deep.0, ahead.2))
      ]

  document_ok : (text : List ℕ) (keys : Members) → parse_document text ≡ Some keys → members_depth keys ≤ 16 → AreShort most (names text) → IsOk most 0 0 (skip_bom text)
  unfolding parse_document names
  document_ok text keys is small short =
      option_map_some _ (lines (suc (length text)) (no_nodes, []) (skip_bom text)) keys is λ last read same.
      let as_deep : nodes_depth last.0 ≡ members_depth keys = ap members_depth same in
      blank_ok (skip_bom text) (lines_ok (suc (length text)) (no_nodes, []) (skip_bom text) last read (omega (arith, as_deep)) short).0

-- more dots than any of these names has
more_dots : List Key → ℕ
more_dots [] = 1
more_dots (name ∷ names) = max (length name.0) (more_dots names)

some_dots : (names : List Key) → 1 ≤ more_dots names
unfolding more_dots
some_dots [] = omega arith
some_dots (name ∷ names) = let rest = some_dots names in grind arith

are_short : (most : ℕ) (names : List Key) → more_dots names ≤ most → AreShort most names
unfolding more_dots
are_short most [] all = tt
are_short most (name ∷ names) all = (grind arith, are_short most names (grind arith))

pub short_names_fit : (text : List ℕ) (keys : Members) → parse_document text ≡ Some keys → members_depth keys ≤ 16 → All (λ (name : Key). suc (length name.0) ≤ 4) (names text) → IsOk 3 0 0 (skip_bom text)
short_names_fit text keys is small short =
    let all = All-weaker (λ (name : Key). suc (length name.0) ≤ 4) (λ (name : Key). length name.0 ≤ 3) (λ name fits. omega arith) (names text) short in
    document_ok 3 (omega arith) text keys is small (recursion_from_All (λ (name : Key). length name.0 ≤ 3) (names text) all)

-- whatever their names, by a limit that these keep
pub few_levels_fit : (text : List ℕ) (keys : Members) → parse_document text ≡ Some keys → members_depth keys ≤ 16 → (most : ℕ) × IsOk most 0 0 (skip_bom text)
few_levels_fit text keys is small =
    let most = more_dots (names text) in
    (most, document_ok most (some_dots (names text)) text keys is small (are_short most (names text) (omega arith)))
