-- A text that was saved is read again.
use Rattle.std.proofs.Common.{◌≡◌, ◌<◌, ◌≤◌, ℕ, ◌^◌, ltb, false, List, ◌++◌, length, Ok, refl, arith}
use Rattle.std.proofs.lemmas.Bool.{le-ltb}
use Rattle.std.proofs.lemmas.List.{length-append, take_at, drop_at}
use Rattle.byteorder.specs.Endian.{big_bytes, big_number}
use Rattle.byteorder.specs.Numbers.{big_number-reads_back}
use Rattle.saved_octets.specs.Field.{text_in, text_octets}

pub text_again : (most : ℕ) (text rest : List ℕ) → length text ≤ most → most < 2 ^ 16 → text_in most (text_octets text ++ rest) ≡ Ok (text, rest)
unfolding text_in
text_again most text rest short narrow =
    let n = length text in
    let behind = text ++ rest in
    let count : big_number 2 (big_bytes 2 n ++ behind) ≡ n = big_number-reads_back 2 n behind (omega (arith, short, narrow)) in
    let fits : ltb most n ≡ false = le-ltb _ _ short in
    let there : ltb (length behind) n ≡ false = le-ltb _ _ (omega (arith, length-append text rest)) in
    let long : ltb (length (text_octets text ++ rest)) 2 ≡ false = le-ltb _ _ (let e : 2 ≤ length (text_octets text ++ rest) = omega arith in e) in
    rw (long, count, fits, there, take_at text rest n refl, drop_at text rest n refl) refl
