-- Where warnings stand whose codes definitions decide, and what they are on.
use Rattle.std.specs.Prelude.{◌≡◌, ℕ, Bool, true, false, not, ◌&&◌, nat_lt, List, [], ◌++◌, All, map, length, if◌then◌else◌}
use Rattle.std.specs.List.{flat_map}
use Rattle.sign_font.specs.Sign.{SignData}
use Rattle.multi_meaning.specs.Meaning.{meanings}
use Rattle.multi_meaning.specs.Times.{Times, page_times}
use Rattle.message_words.specs.Codes.{code_number, decided_codes, is_decided, is_told}
use Rattle.message_words.specs.OnItems.{chosen_places, item_places}
use Rattle.message_words.specs.OnLines.{moving_spaces}
use Rattle.message_words.specs.OnPages.{all_flash, open_flashes, page_texts, place_first, short_pages}
use Rattle.message_words.specs.Said.{said_items}
use Rattle.message_words.specs.declared.code.WarningCode.{WarningCode}
use Rattle.message_words.specs.declared.code.WarningCode.TheVariants.{AllFlashes, LongText, OpenFlash, ShortPage, SpaceAtBegin, SpaceAtEnd}
use Rattle.message_words.specs.declared.said.Said.{Said}
use Rattle.message_words.specs.declared.warnings.Warning.{Warning}

-- the first octet too many for the message table, which takes texts of so many octets (own)
abbrev pub octets_too_many : ℕ → List ℕ → List ℕ
octets_too_many most octets = place_first (nat_lt most (length octets)) most []

-- where warnings of a code stand in a string whose items say this, and whose pages have these times (own)
abbrev pub places_in : SignData → ℕ → List ℕ → List Said → List Times → WarningCode → List ℕ
places_in sign most octets said times LongText = octets_too_many most octets
places_in sign most octets said times ShortPage = short_pages times (page_texts said)
places_in sign most octets said times OpenFlash = open_flashes sign.defaults said
places_in sign most octets said times AllFlashes = place_first (all_flash sign.defaults said) 0 []
places_in sign most octets said times SpaceAtEnd = moving_spaces true sign.defaults said
places_in sign most octets said times SpaceAtBegin = moving_spaces false sign.defaults said
places_in sign most octets said times code = chosen_places code (item_places sign (length times) code said)

-- where warnings of a code stand in a string, on a sign whose message table takes texts of so many octets (own)
unfoldable pub warned_places : SignData → ℕ → List ℕ → WarningCode → List ℕ
warned_places sign most octets code = places_in sign most octets (said_items octets) (page_times sign (meanings octets)) code

-- a warning by the number of its code and its place (own)
abbrev pub note_of : WarningCode → ℕ → ℕ × ℕ
note_of code at = (code_number code, at)

-- some warnings by their codes and places (own)
abbrev pub notes_of : List Warning → List (ℕ × ℕ)
notes_of warnings = map (λ (w : Warning). note_of w.code w.at) warnings

-- the warnings of a code at some places, if it is told (own)
abbrev pub told_notes : List Bool → WarningCode → List ℕ → List (ℕ × ℕ)
told_notes told code places = if is_told told code then map (note_of code) places else []

-- all warnings on a string whose codes definitions decide, and that are told (own)
unfoldable pub decided_notes : List Bool → SignData → ℕ → List ℕ → List (ℕ × ℕ)
decided_notes told sign most octets = flat_map (λ code. told_notes told code (warned_places sign most octets code)) decided_codes

-- a code is told, and no definition decides where its warnings stand (own)
abbrev pub is_seen : List Bool → WarningCode → Bool
is_seen told code = not (is_decided code) && is_told told code

-- a warning has such a code (own)
abbrev pub IsSeen : List Bool → Warning → Type 0
IsSeen told warning = is_seen told warning.code ≡ true

-- these are the warnings on a string: first exactly those that definitions decide, and then some that were found by drawing its pages
-- (own)
abbrev pub AreWarnings : List Bool → SignData → ℕ → List ℕ → List Warning → Type 0
AreWarnings told sign most octets warnings = (decided seen : List Warning) × (warnings ≡ decided ++ seen)
    × (notes_of decided ≡ decided_notes told sign most octets) × All (IsSeen told) seen
