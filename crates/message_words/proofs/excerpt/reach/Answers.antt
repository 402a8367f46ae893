use Rattle.std.proofs.Common.{ℕ, ◌+◌, ◌<◌, ◌≤◌, List, get_or, min, arith, subst, sym}
use Rattle.std.proofs.lemmas.List.Elements.{All-from_get_or}
use Rattle.message_words.proofs.excerpt.reach.Goals as goal

-- the least of a front and of the next octet is the least of both
least_more : (octets : List ℕ) (k least : ℕ) → ((i : ℕ) → i < k → least ≤ get_or octets i 0) → (i : ℕ) → i < k + 1 → min least (get_or octets k 0) ≤ get_or octets i 0
least_more octets k least so_far i below = grind arith

pub loop-octet-preserved : goal.loop-octet-preserved
loop-octet-preserved c = λ i below. subst (λ n. n ≤ get_or c.args.octets.now i 0) (sym c.min-least.ensures) (least_more c.args.octets.now c.loop-octet.octet-index c.loop-octet.least c.loop-octet.invariant i below)

pub returns : goal.returns
returns c = All-from_get_or (λ n. c.loop-octet.least ≤ n) c.args.octets.now 0 (λ i below. c.loop-octet.invariant i (omega (arith, below, c.loop-octet-test.false)))
