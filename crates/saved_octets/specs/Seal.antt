-- The version, the length and the CRC-32 around saved octets.
use Rattle.std.specs.Prelude.{ℕ, ◌+◌, ◌-◌, ◌==◌, not, nat_lt, if◌then◌else◌, List, [], ◌∷◌, ◌++◌, take, drop, length, slice_index, Result, Ok, Err}
use Rattle.byteorder.specs.Endian.{big_bytes, big_number}
use Rattle.saved_octets.specs.declared.fault.StateFault.{StateFault}
use Rattle.saved_octets.specs.declared.fault.StateFault.TheVariants.{Length, Version, Checksum}
use Rattle.saved_octets.specs.Checksum.{crc32}

-- the octets before a body of so many octets: the version, 1, and the number of all octets in four of them (own)
abbrev pub head_octets : ℕ → List ℕ
head_octets count = 1 ∷ [] ++ big_bytes 4 (count + 9)

-- a body after its head (own)
abbrev pub headed : List ℕ → List ℕ
headed body = head_octets (length body) ++ body

-- a body after its head, and then the CRC-32 of both in four octets (own)
abbrev pub sealed : List ℕ → List ℕ
sealed body = headed body ++ big_bytes 4 (crc32 (headed body))

-- the octets without the last four (own)
abbrev pub without_crc : List ℕ → List ℕ
without_crc octets = take (length octets - 4) octets

-- the body of sealed octets, or the first of length, version and CRC-32 that isn't theirs (own)
unfoldable pub unsealed : List ℕ → Result (List ℕ) StateFault
unsealed octets =
    if nat_lt (length octets) 9 then Err Length
    else (if not (slice_index octets 0 == 1) then Err Version
    else (if not (big_number 4 (drop 1 octets) == length octets) then Err Length
    else (if not (big_number 4 (drop (length octets - 4) octets) == crc32 (without_crc octets)) then Err Checksum
    else Ok (take (length octets - 4 - 5) (drop 5 octets)))))
