-- How deep the octets of a text nest, seen before they are read as TOML.
use Rattle.std.specs.Prelude.{ℕ, zero, suc, ◌-◌, ◌≤◌, ◌≡◌, Bool, true, ◌&&◌, ◌||◌, ◌==◌, nat_le, max, if◌then◌else◌, List, [], ◌∷◌, length, drop, All, None, Some}
use Rattle.toml_parser.specs.Lexical.{Read, line_feed, hash, comma, dot, equals, left_bracket, right_bracket, left_brace, right_brace, first, skip_blank}
use Rattle.toml_parser.specs.Strings.{quoted, starts_string}
use Rattle.toml.specs.Data.{Members, members_depth}
use Rattle.toml.specs.Parse.{parse_document, skip_bom}
use Rattle.sign_file.specs.Names.{names, parts}

-- What comes after a string, if the string is one (own).
abbrev pub after_string : (List ℕ → List ℕ) → Read (List ℕ) → List ℕ
after_string more None = []
after_string more (Some string) = more string.1

-- The octet at the front of a text, which begins no string, and what comes after it; a comment is the end of its line (own).
abbrev pub mark_of : List ℕ → ℕ × List ℕ
mark_of text = if first text == hash then (line_feed, skip_blank text) else (first text, drop 1 text)

-- The octets that stand outside strings and comments, in at most n steps. Strings and comments are those of TOML, and nothing is
-- looked at after an octet or a string that no TOML has there (own).
unfoldable pub outside : ℕ → List ℕ → List ℕ
outside zero text = []
outside (suc n) text =
    if first text == 0 || nat_le 128 (first text) then []
    else if starts_string text then after_string (outside n) (quoted text)
    else (mark_of text).0 ∷ outside n (mark_of text).1

-- An octet that opens an array, an inline table or a header (own).
abbrev pub opens : ℕ → Bool
opens octet = octet == left_bracket || octet == left_brace

-- An octet that closes one (own).
abbrev pub closes : ℕ → Bool
closes octet = octet == right_bracket || octet == right_brace

-- An octet before or after which no name goes on (own).
abbrev pub ends_name : ℕ → Bool
ends_name octet = (((opens octet || closes octet) || octet == equals) || octet == comma) || octet == line_feed

-- The most brackets that are open at once, after so many others (own).
unfoldable pub most_open : ℕ → List ℕ → ℕ
most_open opened [] = opened
most_open opened (octet ∷ octets) =
    if opens octet then most_open (suc opened) octets
    else if closes octet then max opened (most_open (opened - 1) octets)
    else most_open opened octets

-- The most dots of a name, of which the first has so many before these octets (own).
unfoldable pub most_dots : ℕ → List ℕ → ℕ
most_dots dots [] = dots
most_dots dots (octet ∷ octets) =
    if ends_name octet then max dots (most_dots 0 octets)
    else if octet == dot then most_dots (suc dots) octets
    else most_dots dots octets

-- How many brackets of a sign file may be open at once (own).
abbrev pub brackets_limit : ℕ
brackets_limit = 16

-- How many dots its names may have (own).
abbrev pub dots_limit : ℕ
dots_limit = 3

-- How many parts they may have (own).
abbrev pub parts_limit : ℕ
parts_limit = suc dots_limit

-- Whether these octets nest no deeper than they may, after so many open brackets and dots of a name (own).
abbrev pub fits : ℕ → ℕ → List ℕ → Bool
fits opened dots octets = nat_le (most_open opened octets) brackets_limit && nat_le (most_dots dots octets) dots_limit

-- Whether a text nests no deeper than a sign file may (own).
unfoldable pub is_shallow : List ℕ → Bool
is_shallow text = fits 0 0 (outside (suc (length text)) (skip_bom text))

-- No text is refused for its brackets whose arrays and tables, as TOML has them, are nested no deeper than brackets may be (own).
abbrev pub FewLevelsFit : Type 0
FewLevelsFit =
    (text : List ℕ) (keys : Members) → parse_document text ≡ Some keys → members_depth keys ≤ brackets_limit
    → nat_le (most_open 0 (outside (suc (length text)) (skip_bom text))) brackets_limit ≡ true

-- No text is refused whose arrays and tables are nested no deeper, and none of whose names has more parts, than may be (own).
abbrev pub ShortNamesFit : Type 0
ShortNamesFit =
    (text : List ℕ) (keys : Members) → parse_document text ≡ Some keys → members_depth keys ≤ brackets_limit
    → All (λ name. parts name ≤ parts_limit) (names text) → is_shallow text ≡ true
