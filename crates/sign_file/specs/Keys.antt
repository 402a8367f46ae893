-- What the keys of a table of a TOML document say, by their kinds.
use Rattle.std.specs.Prelude.{ℕ, ℤ, pos, negsuc, Bool, true, false, List, [], ◌∷◌, ◌≡◌, nat_le, if◌then◌else◌, Option, None, Some, codes, Result, Ok, Err}
use Rattle.std.specs.Str.{bytes_eq}
use Rattle.hex.specs.Hex.{decode_of}
use Rattle.hex.specs.declared.error.FromHexError.{FromHexError}
use Rattle.toml.specs.Data.{Data, Items, no_items, item, Members, get_member, as_integer, as_str, as_bool, as_array, as_table}
use Rattle.sign_font.specs.declared.parts.LineFill.{LineFill}
use Rattle.sign_font.specs.declared.parts.LineFill.TheVariants.{Off, Words}
use Rattle.sign_file.specs.declared.fault.FileFault.{FileFault}
use Rattle.sign_file.specs.declared.fault.FileFault.TheVariants.{Bad, Memory}

-- What comes next is read from what was read, where something was (own).
infixl 10 ◌>>=◌
abbrev pub ◌>>=◌ : {A B : Type 0} → Option A → (A → Option B) → Option B
None >>= next = None
(Some x) >>= next = next x

-- A whole number from 0 to `most` (own).
abbrev pub within : ℕ → ℤ → Option ℕ
within most (pos n) = if nat_le n most then Some n else None
within most (negsuc n) = None

-- The number at a key, which must be there (own).
abbrev pub number_at : ℕ → List ℕ → Members → Option ℕ
number_at most key members = do
  value ← get_member key members
  integer ← as_integer value
  within most integer

-- A number, or `absent` where its key isn't there (own).
abbrev pub number_of : ℕ → ℕ → Option Data → Option ℕ
number_of most absent None = Some absent
number_of most absent (Some value) = do
  integer ← as_integer value
  within most integer

-- The number at a key, or `absent` where the key isn't there (own).
abbrev pub number_or : ℕ → ℕ → List ℕ → Members → Option ℕ
number_or most absent key members = number_of most absent (get_member key members)

-- A truth value, false where its key isn't there (own).
abbrev pub flag_of : Option Data → Option Bool
flag_of None = Some false
flag_of (Some value) = as_bool value

-- The truth value at a key, false where the key isn't there (own).
abbrev pub flag_at : List ℕ → Members → Option Bool
flag_at key members = flag_of (get_member key members)

-- The text at a key, which must be there (own).
abbrev pub text_at : List ℕ → Members → Option (List ℕ)
text_at key members = do
  value ← get_member key members
  as_str value

-- Whether a text names the classic scheme; it may name that or the monochrome one (NTCIP 1203 v03, object
-- dmsColorScheme).
abbrev pub scheme_of : List ℕ → Option Bool
scheme_of text =
    if bytes_eq text (codes "monochrome") then Some false
    else if bytes_eq text (codes "classic") then Some true
    else None

-- Whether a text says that lines are broken between words; it may say that they are or that they aren't (own).
abbrev pub line_fill_named : List ℕ → Option LineFill
line_fill_named text =
    if bytes_eq text (codes "none") then Some Off
    else if bytes_eq text (codes "words") then Some Words
    else None

-- How lines are filled, not at all where its key isn't there (own).
abbrev pub line_fill_of : Option Data → Option LineFill
line_fill_of None = Some Off
line_fill_of (Some value) = as_str value >>= line_fill_named

-- How lines are filled by the text at a key, not at all where the key isn't there (own).
abbrev pub line_fill_at : List ℕ → Members → Option LineFill
line_fill_at key members = line_fill_of (get_member key members)

-- The octets that a text has in hexadecimal, if it has (own).
abbrev pub if_decoded : Result (List ℕ) FromHexError → Option (List ℕ)
if_decoded (Ok octets) = Some octets
if_decoded (Err e) = None

-- The octets at a key, in hexadecimal (own).
abbrev pub octets_at : List ℕ → Members → Option (List ℕ)
octets_at key members = do
  text ← text_at key members
  if_decoded (decode_of text)

-- A table, and what is read from its keys (own).
abbrev pub entry_of : {A : Type 0} → (Members → Option A) → Data → Option A
entry_of read value = as_table value >>= read

-- What is read from each of these tables (own).
unfoldable pub each_of : {A : Type 0} → (Members → Option A) → Items → Option (List A)
each_of read no_items = Some []
each_of read (item value items) = do
  entry ← entry_of read value
  entries ← each_of read items
  Some (entry ∷ entries)

-- What is read from an array of tables, which has none where its key isn't there (own).
abbrev pub list_of : {A : Type 0} → (Members → Option A) → Option Data → Option (List A)
list_of read None = Some []
list_of read (Some value) = as_array value >>= each_of read

-- What is read from the array of tables at a key, which has none where the key isn't there (own).
abbrev pub list_at : {A : Type 0} → (Members → Option A) → List ℕ → Members → Option (List A)
list_at read key members = list_of read (get_member key members)

-- What was read, seen by `seen`, is what is written; nothing is read where nothing is written so, or where memory was
-- refused (own).
abbrev pub Gives : {X Y : Type 0} → (X → Y) → Result X FileFault → Option Y → Type 0
Gives seen (Ok x) written = written ≡ Some (seen x)
Gives seen (Err Bad) written = written ≡ None
Gives seen (Err Memory) written = Unit {0}
