-- What is proposed in place of a refused message, as records in JSON.
use Rattle.std.specs.Prelude.{◌≡◌, ℕ, List, [], ◌∷◌, codes, map, if◌then◌else◌}
use Rattle.std.specs.Str.{is_utf8}
use Rattle.hex.specs.Hex.{encode_lower}
use Rattle.serde_json.specs.Data.{Data, array, member, no_members, null, number, object, string, unsigned}
use Rattle.serde_json.specs.View.{items_of}
use Rattle.sign_font.specs.Sign.{SignData}
use Rattle.message_cures.specs.Cures.{AreFurther}
use Rattle.message_cures.specs.Edits.{IsEdited}
use Rattle.message_cures.specs.declared.difference.Edit.{Edit}
use Rattle.message_cures.specs.declared.mending.Kind.{Kind}
use Rattle.message_cures.specs.declared.mending.Kind.TheVariants.{Capitals, OtherLetters, SameLetters, SmallLetters}
use Rattle.message_cures.specs.declared.mending.Outcome.{Outcome}
use Rattle.message_cures.specs.declared.mending.Outcome.TheVariants as outcomes
use Rattle.message_cures.specs.declared.proposal.Proposal.{Proposal}

-- a number of a record (own)
abbrev pub count : ℕ → Data
count n = number (unsigned n)

-- the name of what a proposal keeps of a message (own)
abbrev pub kind_name : Kind → List ℕ
kind_name Capitals = codes "capitals"
kind_name SmallLetters = codes "small letters"
kind_name SameLetters = codes "same letters"
kind_name OtherLetters = codes "other letters"

-- octets as text, or nothing if they aren't text in UTF-8 (own)
unfoldable pub text_data : List ℕ → Data
text_data octets = if is_utf8 octets then string octets else null

-- octets in hexadecimal, or nothing if they are text in UTF-8 (own)
unfoldable pub octets_data : List ℕ → Data
octets_data octets = if is_utf8 octets then null else string (encode_lower octets)

-- the record of an edit: the offsets in the message, counted from 0, of the first octet that is replaced and of the first one after
-- them, and what stands in their place, in hexadecimal or as text (own)
unfoldable pub edit_record : Edit → Data
edit_record edit =
    object (member (codes "from") (count edit.from)
    (member (codes "octets") (octets_data edit.octets.items)
    (member (codes "text") (text_data edit.octets.items)
    (member (codes "to") (count edit.to) no_members))))

-- the record of what is proposed: its edits, what it keeps, and its octets in hexadecimal or its text (own)
unfoldable pub fix_record : Kind → List ℕ → List Edit → Data
fix_record kind text edits =
    object (member (codes "edits") (array (items_of (map edit_record edits)))
    (member (codes "kind") (string (kind_name kind))
    (member (codes "octets") (octets_data text)
    (member (codes "text") (text_data text) no_members))))

-- the records of some proposals, each with edits that make it of a message (own)
abbrev pub AreFixesOf : List ℕ → List Proposal → List Data → Type 0
AreFixesOf octets [] records = records ≡ []
AreFixesOf octets (proposal ∷ proposals) records = (edits : List Edit) × (others : List Data) × IsEdited octets edits proposal.text.items
    × AreFixesOf octets proposals others × (records ≡ fix_record proposal.kind proposal.text.items edits ∷ others)

-- the records of what is proposed in place of a message: none, or the first proposal and at most two others (own)
abbrev pub AreFixes : SignData → List ℕ → Outcome → List Data → Type 0
AreFixes sign octets (outcomes.Mended other kind) records = (proposals : List Proposal) × AreFurther sign octets other.items proposals
    × AreFixesOf octets (record { text = other; kind = kind } ∷ proposals) records
AreFixes sign octets outcomes.Taken records = records ≡ []
AreFixes sign octets outcomes.Unknown records = records ≡ []
