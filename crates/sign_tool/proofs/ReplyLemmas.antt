-- What a verdict says of the answer to a line.
use Rattle.std.proofs.Common.{◌≡◌, ℕ, ◌<◌, ◌≤◌, List, length, refl, sym, ap, subst}
use Rattle.std.proofs.lemmas.Bool.{le-ltb, lt-ltb}
use Rattle.sign_font.specs.Sign.{SignData}
use Rattle.multi_meaning.specs.Verdict.{Verdict, Accepted, Refused, IsVerdict, verdict}
use Rattle.multi_meaning.proofs.VerdictLemmas.{one_verdict}
use Rattle.sign_tool.specs.Reply.{answer_to, refused_text, too_long_text, verdict_text}

module _ (accepted : ℕ → List ℕ) (sign : SignData) (line : List ℕ) where
  -- a line with too many octets isn't judged
  pub answer_too_long : 4096 < length line → answer_to accepted sign line ≡ too_long_text
  answer_too_long long = rw (lt-ltb _ _ long) refl

  -- the answer to another line is that of the one verdict on it
  pub answer_of_verdict : (v : Verdict) → length line ≤ 4096 → IsVerdict sign line v → answer_to accepted sign line ≡ verdict_text accepted v
  answer_of_verdict v short is =
      let one : verdict sign line ≡ v = sym ((one_verdict sign line v).0 is) in
      rw (le-ltb _ _ short) (ap (verdict_text accepted) one)

  -- the answer to an accepted string, whose number of pages is known; `judge` and `octets` are the sign and the string that a judged string keeps
  pub answer_accepted : (judge : SignData) (octets : List ℕ) (pages : ℕ) → length line ≤ 4096 → judge ≡ sign → octets ≡ line → IsVerdict judge octets (Accepted pages) → answer_to accepted sign line ≡ accepted pages
  answer_accepted judge octets pages short same_sign same_octets is =
      let on_line : IsVerdict judge line (Accepted pages) = subst (λ o. IsVerdict judge o (Accepted pages)) same_octets is in
      answer_of_verdict (Accepted pages) short (subst (λ s. IsVerdict s line (Accepted pages)) same_sign on_line)

  -- the answer to a refused string
  pub answer_refused : (octets : List ℕ) (code at : ℕ) → length line ≤ 4096 → octets ≡ line → IsVerdict sign octets (Refused code at) → answer_to accepted sign line ≡ refused_text code at
  answer_refused octets code at short same_octets is = answer_of_verdict (Refused code at) short (subst (λ o. IsVerdict sign o (Refused code at)) same_octets is)
