-- The table of tags as a function: what a body means, from its octets.
use Rattle.std.specs.Prelude.{◌≡◌, ◌↔◌, ℕ, true, false, ◌&&◌, ◌==◌, nat_le, nat_lt, nat_eq, Bool, if◌then◌else◌, List, [], ◌∷◌, length, drop, find, Option, Some, None, Result, Ok, Err, ok_or, option_map, option_and_then}
use Rattle.std.specs.Option.{option_or, option_zip}
use Rattle.std.specs.List.{list_all, starts_with}
use Rattle.std.specs.Char.{digit_value}
use Rattle.std.specs.Str.{str_to_ascii_lowercase}
use Rattle.multi_tag.specs.declared.name.Name.{Name}
use Rattle.multi_tag.specs.declared.name.Name.TheVariants as names
use Rattle.multi_tag.specs.declared.tag.Tag.{Tag}
use Rattle.multi_tag.specs.declared.tag.Tag.TheVariants.{NewPage, NewLine, LineJust, PageJust, Font, CharSpacing, CharSpacingEnd, PageTime, Flash, FlashEnd, Fore, Back, Rect, HexChar}
use Rattle.multi_tag.specs.declared.tag.TagFault.{TagFault}
use Rattle.multi_tag.specs.declared.tag.TagFault.TheVariants.{Unsupported, Value}
use Rattle.multi_tag.specs.Number.{number}
use Rattle.multi_tag.specs.Just.{line_just_of, page_just_of}
use Rattle.multi_tag.specs.Octet.{comma, letter_o, letter_t}
use Rattle.multi_tag.specs.Body.{table, Spells, HasName}

-- the value that octets are read as, if they have the form that is read (own)
abbrev pub Reads : Type 0 → Type 0
Reads V = List ℕ → Option V

-- nothing stands there, and it is read as this value (own)
abbrev pub read_nothing : {V : Type 0} → V → Reads V
read_nothing value [] = Some value
read_nothing value (_ ∷ _) = None

-- the octets are digits, at least one and at most this many, and write a number from low to high (own)
abbrev pub are_digits : ℕ → ℕ → ℕ → ℕ → List ℕ → Bool
are_digits base most low high octets =
    list_all (λ octet. nat_lt (digit_value octet) base) octets
    && nat_le 1 (length octets)
    && nat_le (length octets) most
    && nat_le low (number base octets)
    && nat_le (number base octets) high

-- such digits, read as the number that they write, if it lies from low to high (own)
abbrev pub digits : ℕ → ℕ → ℕ → ℕ → Reads ℕ
digits base most low high octets = if are_digits base most low high octets then Some (number base octets) else None

-- 1 to 5 decimal digits, for a number from low to high (NTCIP 1203 v03, MULTI; how many digits is own)
abbrev pub decimal : ℕ → ℕ → Reads ℕ
decimal low high = digits 10 5 low high

-- 1 to 4 hexadecimal digits, for a number from low to high (NTCIP 1203 v03, MULTI tags 'fo' and 'hc'; how many digits is own)
abbrev pub hexadecimal : ℕ → ℕ → Reads ℕ
hexadecimal low high = digits 16 4 low high

infixr 2 ◌or◌
infix 3 ◌means◌
-- the value that a form is read as, put into another (own)
abbrev pub ◌means◌ : {U V : Type 0} → Reads U → (U → V) → Reads V
◌means◌ form meaning octets = option_map meaning (form octets)

-- one form, or else another (own)
abbrev pub ◌or◌ : {V : Type 0} → Reads V → Reads V → Reads V
◌or◌ first second octets = option_or (first octets) (second octets)

-- a decimal number from low to high, or none (NTCIP 1203 v03, MULTI; how many digits is own)
abbrev pub decimal? : ℕ → ℕ → Reads (Option ℕ)
decimal? low high = read_nothing None or decimal low high means Some

-- an octet, and then a form (own)
abbrev pub read_after : {V : Type 0} → ℕ → Reads V → Reads V
read_after octet form [] = None
read_after octet form (first ∷ rest) = if first == octet then form rest else None

-- the octets before the first of a kind, and those after it, if one stands there (own)
abbrev pub parts : ℕ → Reads (List ℕ × List ℕ)
parts octet [] = None
parts octet (first ∷ rest) =
    if first == octet
    then Some ([], rest)
    else option_map (λ (front, behind). (first ∷ front, behind)) (parts octet rest)

-- two forms with an octet between them, the first of its kind (own)
abbrev pub read_between : {U V : Type 0} → ℕ → Reads U → Reads V → Reads (U × V)
read_between octet first second octets =
    option_and_then (λ (front, rest). option_zip (first front) (second rest)) (parts octet octets)

-- what follows a name, in small letters, is read by the form of its row (NTCIP 1203 v03,
-- MULTI; the ranges of 'nl', 'sc' and 'fl' are own)
abbrev pub read_rest : Name → Reads Tag
read_rest names.NewPage = read_nothing NewPage
read_rest names.NewLine = decimal? 0 255 means NewLine
read_rest names.LineJust = decimal? 2 5 means (λ just. LineJust (option_map line_just_of just))
read_rest names.PageJust = decimal? 2 4 means (λ just. PageJust (option_map page_just_of just))
read_rest names.Font =
    read_nothing (Font None)
    or decimal 1 255 means (λ n. Font (Some (record { number = n; version = None })))
    or read_between comma (decimal 1 255) (hexadecimal 0 65535) means (λ (n, v). Font (Some (record { number = n; version = Some v })))
read_rest names.CharSpacing = decimal 0 255 means CharSpacing
read_rest names.CharSpacingEnd = read_nothing CharSpacingEnd
read_rest names.PageTime =
    decimal? 0 255 means (λ on. PageTime on None)
    or read_between letter_o (decimal? 0 255) (decimal? 0 255) means (λ (on, off). PageTime on off)
read_rest names.Flash =
    read_nothing (Flash false None None)
    or read_after letter_t (decimal? 0 255) means (λ on. Flash false on None)
    or read_after letter_t (read_between letter_o (decimal? 0 255) (decimal? 0 255)) means (λ (on, off). Flash false on off)
    or read_after letter_o (decimal? 0 255) means (λ off. Flash true None off)
    or read_after letter_o (read_between letter_t (decimal? 0 255) (decimal? 0 255)) means (λ (off, on). Flash true on off)
read_rest names.FlashEnd = read_nothing FlashEnd
read_rest names.Fore = decimal? 0 9 means Fore
read_rest names.Back = decimal? 0 9 means Back
read_rest names.Rect =
    read_between comma (decimal 0 99999) (read_between comma (decimal 0 99999) (read_between comma (decimal 0 99999) (decimal 0 99999)))
    means (λ (x, (y, (w, h))). Rect x y w h)
read_rest names.HexChar = hexadecimal 1 65535 means HexChar

-- the names of the table, in its order (own)
abbrev pub listed : List Name
listed =
    names.NewPage ∷ names.NewLine ∷ names.LineJust ∷ names.PageJust ∷ names.Font ∷ names.CharSpacing ∷ names.CharSpacingEnd ∷ names.PageTime
    ∷ names.Flash ∷ names.FlashEnd ∷ names.Fore ∷ names.Back ∷ names.Rect ∷ names.HexChar ∷ []

-- the listed name that begins the octets, if one does (own)
abbrev pub name_at_front : List ℕ → Option Name
name_at_front octets = find (λ name. starts_with nat_eq octets (table name).name) listed

-- the tag of small letters that begin with this name, or with no listed one (NTCIP 1203 v03, MULTI)
abbrev pub tag_behind : Option Name → List ℕ → Result Tag TagFault
tag_behind None octets = Err Unsupported
tag_behind (Some name) octets = ok_or (read_rest name (drop (length (table name).name) octets)) Value

-- the tag that a body spells, with its letters in either case, or why it spells none (NTCIP 1203 v03, MULTI)
unfoldable pub tag_of : List ℕ → Result Tag TagFault
tag_of body = tag_behind (name_at_front (str_to_ascii_lowercase body)) (str_to_ascii_lowercase body)

-- LAWS

-- the function gives the tags that bodies spell, and says unsupported just where no listed name begins the body (own)
abbrev pub TagOfIsTheTable : Type 0
TagOfIsTheTable =
    (body : List ℕ) → ((tag : Tag) → Spells body tag ↔ (tag_of body ≡ Ok tag)) × ((tag_of body ≡ Err Unsupported) ↔ (¬ (HasName body)))
