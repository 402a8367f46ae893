-- Which messages a sign takes.
use Rattle.std.proofs.Common.{◌≡◌, ℕ, ◌<◌, ◌≤◌, false, List, length, refl, ap, subst}
use Rattle.std.proofs.lemmas.Bool.{le-ltb, lt-ltb}
use Rattle.sign_font.specs.Sign.{SignData}
use Rattle.multi_meaning.specs.Verdict.{IsVerdict, Verdict}
use Rattle.multi_meaning.proofs.VerdictLemmas.{one_verdict}
use Rattle.message_cures.specs.Taking.{accepts, takes}

-- a message of at most 4,096 octets is taken if its verdict accepts
pub taken_by : (sign : SignData) (octets message : List ℕ) (v : Verdict) → length message ≤ 4096 → octets ≡ message → IsVerdict sign octets v → accepts v ≡ takes sign message
unfolding takes
taken_by sign octets message v short same is =
    let on_line : IsVerdict sign message v = subst (λ l. IsVerdict sign l v) same is in
    rw (le-ltb _ _ short) (ap accepts ((one_verdict sign message v).0 on_line))

-- one with more octets isn't
pub not_taken : (sign : SignData) (message : List ℕ) → 4096 < length message → false ≡ takes sign message
unfolding takes
not_taken sign message long = rw (lt-ltb _ _ long) refl
