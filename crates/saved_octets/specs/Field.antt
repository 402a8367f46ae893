-- Fields of saved octets: numbers with the high octet first, and texts after their lengths.
use Rattle.std.specs.Prelude.{◌≡◌, ℕ, ◌+◌, nat_lt, if◌then◌else◌, List, ◌++◌, take, drop, length, Result, Ok, Err}
use Rattle.byteorder.specs.Endian.{big_bytes, big_number}
use Rattle.saved_octets.specs.declared.fault.StateFault.{StateFault}
use Rattle.saved_octets.specs.declared.fault.StateFault.TheVariants.{Length, TooLong}

infixl 10 ◌>>=◌
-- what is read next, unless there is a refusal (own)
abbrev pub ◌>>=◌ : {A B : Type 0} → Result A StateFault → (A → Result B StateFault) → Result B StateFault
(Ok x) >>= f = f x
(Err fault) >>= f = Err fault

-- what the code answers, seen by `view`, is this value, or this refusal (own)
abbrev pub Gives : {X Y : Type 0} → (X → Y) → Result X StateFault → Result Y StateFault → Type 0
Gives view (Ok x) read = read ≡ Ok (view x)
Gives view (Err fault) read = read ≡ Err fault

-- octets stand at a place, and all others are as before (own)
abbrev pub placed : List ℕ → ℕ → List ℕ → List ℕ
placed old at octets = take at old ++ octets ++ drop (at + length octets) old

-- a text: its length in two octets, and then its octets (own)
abbrev pub text_octets : List ℕ → List ℕ
text_octets text = big_bytes 2 (length text) ++ text

-- the text at the front, of at most so many octets, and the octets after it (own)
unfoldable pub text_in : ℕ → List ℕ → Result (List ℕ × List ℕ) StateFault
text_in most octets =
    if nat_lt (length octets) 2 then Err Length
    else (if nat_lt most (big_number 2 octets) then Err TooLong
    else (if nat_lt (length (drop 2 octets)) (big_number 2 octets) then Err Length
    else Ok (take (big_number 2 octets) (drop 2 octets), drop (big_number 2 octets) (drop 2 octets))))
