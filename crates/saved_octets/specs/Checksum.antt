-- The CRC of octets (ISO/IEC 3309, 32 bits).
use Rattle.std.specs.Prelude.{ℕ, ◌/◌, ◌%◌, ◌==◌, if◌then◌else◌, List, fold, bit_xor}

-- one bit: the register is shifted right, and combined with 0xEDB88320 where a 1 was shifted out (ISO/IEC 3309)
abbrev pub bit_step : ℕ → ℕ
bit_step register = if register % 2 == 1 then bit_xor (register / 2) 0xEDB88320 else register / 2

-- four bits (own)
unfoldable pub four_steps : ℕ → ℕ
four_steps register = bit_step (bit_step (bit_step (bit_step register)))

-- an octet is combined into the low eight bits, and then come eight bits (ISO/IEC 3309)
unfoldable pub octet_step : ℕ → ℕ → ℕ
octet_step register octet = four_steps (four_steps (bit_xor register octet))

-- the CRC of octets: the register begins with every bit set, and at the end every bit is inverted (ISO/IEC 3309)
unfoldable pub crc32 : List ℕ → ℕ
crc32 octets = bit_xor (fold octet_step 0xFFFFFFFF octets) 0xFFFFFFFF
