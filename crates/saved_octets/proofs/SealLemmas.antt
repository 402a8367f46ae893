-- What was sealed is opened again.
use Rattle.std.proofs.Common.{◌≡◌, ◌<◌, ℕ, ◌+◌, ◌-◌, ◌^◌, Bool, ltb, eqb, true, false, not, cond, List, [], ◌++◌, take, drop, length, Result, Ok, Err, refl, sym, ap, ◌∙◌, arith, eq-eqb}
use Rattle.std.proofs.lemmas.Bool.{le-ltb}
use Rattle.std.proofs.lemmas.List.{length-append, take_at, drop_at}
use Rattle.byteorder.specs.Endian.{big_bytes, big_number}
use Rattle.byteorder.specs.Numbers.{big_number-reads_back}
use Rattle.saved_octets.specs.declared.fault.StateFault.{StateFault}
use Rattle.saved_octets.specs.declared.fault.StateFault.TheVariants.{Length, Version, Checksum}
use Rattle.saved_octets.specs.Checksum.{crc32}
use Rattle.saved_octets.specs.Seal.{headed, sealed, unsealed, without_crc}

-- each test is passed
passed : (short version count same : Bool) (body : List ℕ) → short ≡ false → version ≡ true → count ≡ true → same ≡ true
    → (let r : Result (List ℕ) StateFault = cond short (Err Length) (cond (not version) (Err Version) (cond (not count) (Err Length) (cond (not same) (Err Checksum) (Ok body)))) in r) ≡ Ok body
passed short version count same body s v c m = rw (s, v, c, m) refl

pub sealed_again : (body : List ℕ) → length body + 9 < 2 ^ 32 → crc32 (headed body) < 2 ^ 32 → unsealed (sealed body) ≡ Ok body
unfolding unsealed
sealed_again body short narrow =
    let n = length body in
    let crc = crc32 (headed body) in
    let octets = sealed body in
    let inner : length (headed body) ≡ n + 5 = omega arith in
    let all : length octets ≡ n + 9 = length-append (headed body) (big_bytes 4 crc) ∙ omega (arith, inner) in
    let end : length (headed body) ≡ length octets - 4 = omega (arith, inner, all) in
    let long : ltb (length octets) 9 ≡ false = le-ltb _ _ (omega (arith, all)) in
    let told : big_number 4 (drop 1 octets) ≡ n + 9 = big_number-reads_back 4 (n + 9) (body ++ big_bytes 4 crc) short in
    let count : eqb (big_number 4 (drop 1 octets)) (length octets) ≡ true = eq-eqb _ _ (told ∙ sym all) in
    let tail : drop (length octets - 4) octets ≡ big_bytes 4 crc = drop_at (headed body) (big_bytes 4 crc) (length octets - 4) end in
    let kept : without_crc octets ≡ headed body = take_at (headed body) (big_bytes 4 crc) (length octets - 4) end in
    let read : big_number 4 (drop (length octets - 4) octets) ≡ crc = ap (big_number 4) tail ∙ big_number-reads_back 4 crc [] narrow in
    let same : eqb (big_number 4 (drop (length octets - 4) octets)) (crc32 (without_crc octets)) ≡ true = eq-eqb _ _ (read ∙ sym (ap crc32 kept)) in
    let middle : take (length octets - 4 - 5) (drop 5 octets) ≡ body = take_at body (big_bytes 4 crc) (length octets - 4 - 5) (omega (arith, all)) in
    passed (ltb (length octets) 9) true (eqb (big_number 4 (drop 1 octets)) (length octets)) (eqb (big_number 4 (drop (length octets - 4) octets)) (crc32 (without_crc octets)))
    (take (length octets - 4 - 5) (drop 5 octets)) long refl count same
    ∙ ap (λ (l : List ℕ). let r : Result (List ℕ) StateFault = Ok l in r) middle
