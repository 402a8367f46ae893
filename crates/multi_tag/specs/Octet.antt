-- Octets that stand between numbers.
use Rattle.std.specs.Prelude.{ℕ}

-- `,` (NTCIP 1203 v03, MULTI tags 'fo' and 'tr')
abbrev pub comma : ℕ
comma = 44

-- the letter `o` (NTCIP 1203 v03, MULTI tags 'pt' and 'fl')
abbrev pub letter_o : ℕ
letter_o = 111

-- the letter `t` (NTCIP 1203 v03, MULTI tag 'fl')
abbrev pub letter_t : ℕ
letter_t = 116
