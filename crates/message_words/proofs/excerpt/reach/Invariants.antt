use Rattle.std.proofs.Common.{ℕ, ◌≤◌, ◌<◌, get_or}
use Rattle.message_words.proofs.excerpt.reach.Given as goal

abbrev pub invariant-loop-octet : goal.invariant-loop-octet
invariant-loop-octet l = (i : ℕ) → i < l.octet-index → l.least ≤ get_or l.octets i 0
