-- The codes by which messages are named, and the numbers by which kinds are known outside.
use Rattle.std.specs.Prelude.{ℕ, List, drop, slice_index}
use Rattle.byteorder.specs.Endian.{big_number}
use Rattle.sign_control.specs.declared.code.ActivateError.{ActivateError}
use Rattle.sign_control.specs.declared.code.ActivateError.TheVariants as error
use Rattle.sign_control.specs.declared.code.ActivationCode.{ActivationCode}
use Rattle.sign_control.specs.declared.code.IdCode.{IdCode}
use Rattle.sign_control.specs.declared.code.SourceMode.{SourceMode}
use Rattle.sign_control.specs.declared.code.SourceMode.TheVariants as mode

-- a message and its CRC in five octets: memory type, number and CRC, the high octet of each number first
-- (NTCIP 1203 v03, MessageIDCode)
abbrev pub id_code : List ℕ → IdCode
id_code octets = record {
  message = record { memory = slice_index octets 0; number = big_number 2 (drop 1 octets) };
  crc = big_number 2 (drop 3 octets);
}

-- what is asked for in twelve octets: duration, priority, the message with its CRC, and the source address
-- (NTCIP 1203 v03, MessageActivationCode)
abbrev pub activation_code : List ℕ → ActivationCode
activation_code octets = record {
  duration = big_number 2 octets;
  priority = slice_index octets 2;
  id = id_code (drop 3 octets);
  requester = big_number 4 (drop 8 octets);
}

-- the number of an activate error (NTCIP 1203 v03, dmsActivateMsgError)
abbrev pub error_code : ActivateError → ℕ
error_code error.None = 2
error_code error.Priority = 3
error_code error.MessageStatus = 4
error_code error.MessageMemoryType = 5
error_code error.MessageNumber = 6
error_code error.MessageCrc = 7
error_code error.SyntaxMulti = 8

-- the number of a source mode (NTCIP 1203 v03, dmsMsgSourceMode)
abbrev pub mode_code : SourceMode → ℕ
mode_code mode.Other = 1
mode_code mode.Central = 8
mode_code mode.EndDuration = 14
