-- The parts of which what is told of a message is made.
use Rattle.std.specs.Prelude.{ℕ, ◌+◌, ◌==◌, List, [], ◌∷◌, ◌++◌, codes, decimal, Option, None, Some, if◌then◌else◌}
use Rattle.message_cures.specs.declared.mending.Kind.{Kind}
use Rattle.message_cures.specs.declared.mending.Outcome.{Outcome}
use Rattle.message_cures.specs.declared.mending.Outcome.TheVariants as outcomes
use Rattle.message_report.specs.Names.{name_of}

-- PLACES

-- what is told of a message begins with the number of its line (own)
unfoldable pub line_head : ℕ → List ℕ
line_head line = codes "line " ++ decimal line ++ codes ": "

-- a place in a file as editors read it: the name, the line, and the column of an octet, which is counted from 1 (own)
unfoldable pub place_text : List ℕ → ℕ → ℕ → List ℕ
place_text name line at = name ++ codes ":" ++ decimal line ++ codes ":" ++ decimal (at + 1) ++ codes ": "

-- VERDICTS

-- an error by its name and its number (own)
unfoldable pub error_text : ℕ → List ℕ
error_text code = name_of code ++ codes " (" ++ decimal code ++ codes ")"

-- a refused message is told with its error, and the octet where that stands, counted from 0 (own)
unfoldable pub refused_text : ℕ → ℕ → List ℕ
refused_text code at = codes "refused: " ++ error_text code ++ codes " at octet " ++ decimal at ++ codes "\n"

-- an accepted message is told with the number of its pages (own)
unfoldable pub accepted_text : ℕ → List ℕ
accepted_text pages = codes "accepted: " ++ decimal pages ++ (if pages == 1 then codes " page\n" else codes " pages\n")

-- a message with too many octets isn't judged (own)
unfoldable pub too_long_text : List ℕ
too_long_text = codes "too long: a message has at most 4096 octets\n"

-- a page begins with its number, counted from 1, and how many there are (own)
unfoldable pub head_text : ℕ → ℕ → List ℕ
head_text page pages = codes "page " ++ decimal (page + 1) ++ codes " of " ++ decimal pages ++ codes ", "

-- PROPOSALS

-- a change of a line of a file begins with the file's name, once for what it was and once for what it becomes, and the line (own)
unfoldable pub change_head : List ℕ → ℕ → List ℕ
change_head name line =
    codes "--- " ++ name ++ codes "\n+++ " ++ name ++ codes "\n@@ -" ++ decimal line ++ codes " +" ++ decimal line ++ codes " @@\n-"

-- that nothing is proposed, as a line (own)
unfoldable pub no_proposal_text : List ℕ
no_proposal_text = codes "no proposal: the sign takes none of the texts that were tried\n"

-- what is proposed in place of a message that a sign refuses, after a place and some words as a line, or that nothing is (own)
abbrev pub proposal_line : List ℕ → List ℕ → Outcome → List ℕ
proposal_line place words (outcomes.Mended other kind) = place ++ words ++ other.items ++ 10 ∷ []
proposal_line place words outcomes.Taken = []
proposal_line place words outcomes.Unknown = place ++ no_proposal_text

-- what is written in place of a message: what is proposed, or else itself (own)
abbrev pub mended_text : List ℕ → Outcome → List ℕ
mended_text octets (outcomes.Mended other kind) = other.items
mended_text octets outcomes.Taken = octets
mended_text octets outcomes.Unknown = octets

-- what a proposal keeps, if there is one (own)
abbrev pub kind_of : Outcome → Option Kind
kind_of (outcomes.Mended other kind) = Some kind
kind_of outcomes.Taken = None
kind_of outcomes.Unknown = None

-- the change of a line of a file from a message to what is proposed in its place, as a unified diff, or nothing (own)
abbrev pub diff_text : List ℕ → ℕ → List ℕ → Outcome → List ℕ
diff_text name line octets (outcomes.Mended other kind) = change_head name line ++ octets ++ codes "\n+" ++ other.items ++ codes "\n"
diff_text name line octets outcomes.Taken = []
diff_text name line octets outcomes.Unknown = []
