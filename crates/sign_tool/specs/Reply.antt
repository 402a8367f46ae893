-- The texts of answers.
use Rattle.std.specs.Prelude.{ℕ, List, ◌++◌, length, nat_lt, if◌then◌else◌, codes, decimal}
use Rattle.sign_font.specs.Sign.{SignData}
use Rattle.multi_meaning.specs.Verdict.{Verdict, Accepted, Refused, verdict}

-- A string with too many octets is answered by this text (own).
abbrev pub too_long_text : List ℕ
too_long_text = codes "too long\n"

-- A refused string is answered by the error code and the octet offset (own).
abbrev pub refused_text : ℕ → ℕ → List ℕ
refused_text code at = codes "error " ++ decimal code ++ codes " " ++ decimal at ++ codes "\n"

-- A string is answered by the verdict on it, where `accepted` answers an accepted one with this number of pages (own).
abbrev pub verdict_text : (ℕ → List ℕ) → Verdict → List ℕ
verdict_text accepted (Accepted pages) = accepted pages
verdict_text accepted (Refused code at) = refused_text code at

-- A string of at most 4,096 octets is answered by the sign's verdict on it, by the sign's own defaults (own).
abbrev pub answer_to : (ℕ → List ℕ) → SignData → List ℕ → List ℕ
answer_to accepted sign line = if nat_lt 4096 (length line) then too_long_text else verdict_text accepted (verdict sign line)

-- The check answers an accepted string by the number of its pages (own).
abbrev pub pages_text : ℕ → List ℕ
pages_text pages = codes "ok " ++ decimal pages ++ codes "\n"

-- The check's answer to a line (own).
abbrev pub check_answer : SignData → List ℕ → List ℕ
check_answer sign line = answer_to pages_text sign line
