-- The judgement of a text is what its one verdict says.
use Rattle.std.proofs.Common.{◌≡◌, ◌∙◌, ap, List, ℕ}
use Rattle.sign_font.specs.Sign.{SignData}
use Rattle.multi_meaning.specs.Verdict.{Verdict, IsVerdict, verdict}
use Rattle.multi_meaning.proofs.VerdictLemmas.{one_verdict}

-- what is said of the octets of a text is the verdict on it
pub verdict_is : (sign : SignData) (text octets : List ℕ) (v : Verdict) → octets ≡ text → IsVerdict sign octets v → v ≡ verdict sign text
verdict_is sign text octets v same is = (one_verdict sign octets v).0 is ∙ ap (λ (l : List ℕ). verdict sign l) same
