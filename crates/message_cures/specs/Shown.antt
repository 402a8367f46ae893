-- The octets of a message, in tags and outside of them, and what is made of each.
use Rattle.std.specs.Prelude.{ℕ, Bool, true, false, ◌==◌, List, [], ◌∷◌, ◌++◌, codes, if◌then◌else◌}
use Rattle.std.specs.Char.{is_ascii_alphanumeric, to_ascii_lowercase, to_ascii_uppercase}
use Rattle.message_cures.specs.declared.shown.Change.{Change}
use Rattle.message_cures.specs.declared.shown.Change.TheVariants.{Capitals, Letters, Lines, SmallLetters}
use Rattle.message_cures.specs.declared.shown.Place.{Place}
use Rattle.message_cures.specs.declared.shown.Place.TheVariants.{Second, Tag, Text}

-- the first of some octets is an opening bracket (own)
abbrev pub is_open : List ℕ → Bool
is_open [] = false
is_open (octet ∷ octets) = octet == 91

-- the first bracket of some octets is a closing one (own)
abbrev pub is_closed : List ℕ → Bool
is_closed [] = false
is_closed (octet ∷ octets) = if octet == 93 then true else (if octet == 91 then false else is_closed octets)

-- where the octet after an opening bracket stands, by the octets that follow: it is the second of a doubled bracket, or in a tag, or it is
-- shown, since the bracket is broken (NTCIP 1203 v03, MULTI)
abbrev pub behind_bracket : List ℕ → Place
behind_bracket octets = if is_open octets then Second else (if is_closed octets then Tag else Text)

-- where the octet after one at a place stands, by the octets that follow it (own)
abbrev pub next_place : Place → ℕ → List ℕ → Place
next_place Text octet octets = if octet == 91 then behind_bracket octets else Text
next_place Second octet octets = Text
next_place Tag octet octets = if octet == 93 then Text else Tag

-- what is made of an octet of a tag (own)
abbrev pub in_tag : Change → ℕ → List ℕ
in_tag Letters octet = []
in_tag Capitals octet = octet ∷ []
in_tag SmallLetters octet = octet ∷ []
in_tag Lines octet = octet ∷ []

-- and of one outside: of letters and digits of ASCII the small letter, or any octet as a capital or a small letter if it is a letter; and
-- of a space a line break (own)
abbrev pub in_text : Change → ℕ → List ℕ
in_text Letters octet = if is_ascii_alphanumeric octet then to_ascii_lowercase octet ∷ [] else []
in_text Capitals octet = to_ascii_uppercase octet ∷ []
in_text SmallLetters octet = to_ascii_lowercase octet ∷ []
in_text Lines octet = if octet == 32 then codes "[nl]" else to_ascii_uppercase octet ∷ []

-- what is made of an octet at a place (own)
abbrev pub made_of : Change → Place → ℕ → List ℕ
made_of change Text octet = in_text change octet
made_of change Second octet = in_text change octet
made_of change Tag octet = in_tag change octet

-- what is made of octets, the first of which stands at a place (own)
abbrev pub made_from : Change → Place → List ℕ → List ℕ
made_from change place [] = []
made_from change place (octet ∷ octets) = made_of change place octet ++ made_from change (next_place place octet octets) octets

-- what is made of a message (own)
unfoldable pub made : Change → List ℕ → List ℕ
made change octets = made_from change Text octets

-- the letters and digits of ASCII that a message shows, in small letters: those of its tags aren't shown (own)
abbrev pub letters_of : List ℕ → List ℕ
letters_of octets = made Letters octets

-- a message with its letters in capitals, but for those of tags (own)
abbrev pub in_capitals : List ℕ → List ℕ
in_capitals octets = made Capitals octets

-- a message with its letters in small letters, but for those of tags (own)
abbrev pub in_small_letters : List ℕ → List ℕ
in_small_letters octets = made SmallLetters octets

-- a message in capitals, with a line break in place of each space (own)
abbrev pub in_lines : List ℕ → List ℕ
in_lines octets = made Lines octets
