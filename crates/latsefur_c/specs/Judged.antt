-- The verdict on a text, as a host gets it.
use Rattle.std.specs.Prelude.{◌≡◌, ◌⊎◌, ◌^◌, ◌<◌, ◌≤◌, ℕ, List, length, slice_get, Some}
use Rattle.sign_font.specs.Sign.{SignData}
use Rattle.multi_meaning.specs.Verdict.{Accepted, IsCycle, IsVerdict, Refused}
use Rattle.latsefur_c.specs.declared.check.LatsefurVerdict.{LatsefurVerdict}
use Rattle.latsefur_c.specs.Outcome.{HasNoSign, sign_of_file}

-- a text isn't too long to be judged (own)
abbrev pub IsShort : List ℕ → Type 0
IsShort text = length text < 2 ^ 32

-- the text is accepted: its pages and their cycle are told (NTCIP 1203 v03, MULTI tags 'np' and 'pt'; the cycle is own)
abbrev pub TellsPages : SignData → List ℕ → LatsefurVerdict → Type 0
TellsPages sign text verdict =
    (verdict.outcome ≡ 0) × IsShort text × IsVerdict sign text (Accepted verdict.pages) × IsCycle sign text verdict.cycle
    × (verdict.code ≡ 0) × (verdict.at ≡ 0)

-- the text is refused: its first error and the octet where that stands are told, and no pages (NTCIP 1203 v03, dmsMultiSyntaxError and
-- dmsMultiSyntaxErrorPosition; that octets are counted from 0 is own)
abbrev pub TellsError : SignData → List ℕ → LatsefurVerdict → Type 0
TellsError sign text verdict =
    (verdict.outcome ≡ 1) × IsShort text × IsVerdict sign text (Refused verdict.code verdict.at) × (verdict.pages ≡ 0) × (verdict.cycle ≡ 0)

-- the text is too long to be judged (own)
abbrev pub TellsLength : List ℕ → LatsefurVerdict → Type 0
TellsLength text verdict =
    (verdict.outcome ≡ 7) × (2 ^ 32 ≤ length text) × (verdict.pages ≡ 0) × (verdict.cycle ≡ 0) × (verdict.code ≡ 0) × (verdict.at ≡ 0)

-- a verdict tells what a sign says of a text (own)
abbrev pub IsJudged : SignData → List ℕ → LatsefurVerdict → Type 0
IsJudged sign text verdict = TellsPages sign text verdict ⊎ TellsError sign text verdict ⊎ TellsLength text verdict

-- a text is judged on the sign of a sign file; or there is no such sign, and the verdict stays as it was (own)
abbrev pub Judges : List ℕ → List ℕ → LatsefurVerdict → LatsefurVerdict → ℕ → Type 0
Judges file text old new outcome =
    (HasNoSign file outcome × (new ≡ old))
    ⊎ ((sign : SignData) × (sign_of_file file ≡ Some sign) × IsJudged sign text new × (outcome ≡ new.outcome))

-- each text is judged by the verdict at its place, and the verdicts after those stay as they were (own)
pub record AreJudged (sign : SignData) (texts : List (List ℕ)) (old new : List LatsefurVerdict) : Type 0 where
  pub count : length new ≡ length old
  pub room : length texts ≤ length new
  pub each :
      (place : ℕ) (text : List ℕ) (verdict : LatsefurVerdict) → slice_get texts place ≡ Some text → slice_get new place ≡ Some verdict
      → IsJudged sign text verdict
  pub kept : (place : ℕ) → length texts ≤ place → slice_get new place ≡ slice_get old place

-- many texts are judged on the sign of one sign file; or there are fewer verdicts than texts, or
-- else there is no such sign, and all verdicts stay as they were (own)
abbrev pub JudgesAll : List ℕ → List (List ℕ) → List LatsefurVerdict → List LatsefurVerdict → ℕ → Type 0
JudgesAll file texts old new outcome =
    ((outcome ≡ 5) × (length old < length texts) × (new ≡ old))
    ⊎ (HasNoSign file outcome × (length texts ≤ length old) × (new ≡ old))
    ⊎ ((outcome ≡ 0) × ((sign : SignData) × (sign_of_file file ≡ Some sign) × AreJudged sign texts old new))
