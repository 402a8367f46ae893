-- The names of a text: its keys, where TOML's grammar, as `toml` has it, reads one.
use Rattle.std.specs.Prelude.{ℕ, zero, suc, ◌&&◌, ◌==◌, if◌then◌else◌, List, [], ◌∷◌, ◌++◌, length, drop, slice_index, Option, None, Some}
use Rattle.toml_parser.specs.Lexical.{Read, left_bracket, right_bracket, left_brace, right_brace, first, skip_blank}
use Rattle.toml_parser.specs.Strings.{Key, recursion_limit}
use Rattle.toml.specs.Data.{Data}
use Rattle.toml.specs.Parse.{after_element, header_key, key_equals, keyval, line, skip_bom, val}

-- The names in what was read, or none if nothing was (own).
abbrev pub names_in : {A : Type 0} → Option A → (A → List Key) → List Key
names_in None names = []
names_in (Some read) names = names read

-- Of values, `read` reads one, and `inside` are its names.
module _ (read : List ℕ → Read Data) (inside : List ℕ → List Key) where
  -- The name of a key with a value, and those inside that (own).
  abbrev pub names_of_pair : List ℕ → List Key
  names_of_pair text = names_in (key_equals text) (λ key. key.0 ∷ inside key.1)

  -- The names in the rest of an array of at most n elements (own).
  unfoldable pub names_of_items : ℕ → List ℕ → List Key
  names_of_items zero text = []
  names_of_items (suc n) text =
      let start = skip_blank text in
      if first start == right_bracket then []
      else inside start ++ names_in (read start) (λ value. names_in (after_element right_bracket value.1) (names_of_items n))

  -- The names in the rest of an inline table of at most n pairs (own).
  unfoldable pub names_of_members : ℕ → List ℕ → List Key
  names_of_members zero text = []
  names_of_members (suc n) text =
      let start = skip_blank text in
      if first start == right_brace then []
      else names_of_pair start ++ names_in (keyval read start) (λ pair. names_in (after_element right_brace pair.1) (names_of_members n))

-- The names inside a value, whose arrays and inline tables are at most this deep (own).
unfoldable pub names_of_value : ℕ → List ℕ → List Key
names_of_value zero text = []
names_of_value (suc depth) text =
    if first text == left_bracket then names_of_items (val depth) (names_of_value depth) (length text) (drop 1 text)
    else if first text == left_brace then names_of_members (val depth) (names_of_value depth) (length text) (drop 1 text)
    else []

-- The names of a header, or of a key with its value (own).
unfoldable pub names_of_line : List ℕ → List Key
names_of_line text =
    if first text == left_bracket && slice_index text 1 == left_bracket then names_in (header_key (drop 2 text)) (λ key. key.0 ∷ [])
    else if first text == left_bracket then names_in (header_key (drop 1 text)) (λ key. key.0 ∷ [])
    else names_of_pair (val recursion_limit) (names_of_value recursion_limit) text

-- The names of fewer than n headers and pairs, each on its line (own).
unfoldable pub names_of_lines : ℕ → List ℕ → List Key
names_of_lines zero text = []
names_of_lines (suc n) text =
    let start = skip_blank text in
    if length start == 0 then []
    else names_of_line start ++ names_in (line start) (λ read. names_of_lines n read.1)

-- The names of a text, in their order (own).
unfoldable pub names : List ℕ → List Key
names text = names_of_lines (suc (length text)) (skip_bom text)

-- How many parts a name has, with dots between them (own).
abbrev pub parts : Key → ℕ
parts name = suc (length name.0)
