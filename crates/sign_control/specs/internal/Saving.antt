-- What the code knows of numbers that it saves, and answers of octets that it reads.
use Rattle.std.specs.Prelude.{◌<◌, ◌^◌}
use Rattle.sign_control.specs.declared.parts.Parts.{Parts}
use Rattle.sign_control.specs.declared.restore.Read.{Read}
use Rattle.sign_control.specs.Saved.{ReadData}

-- what was read, as data (own)
abbrev pub read_data : Read → ReadData
read_data read = record { parts = read.parts; text = read.text.now; rest = read.rest.now }

-- each number of the parts fits the octets that it is saved in (own)
pub record AreNumbers (parts : Parts) : Type 0 where
  pub end_number : parts.end.message.number < 2 ^ 16
  pub end_crc : parts.end.crc < 2 ^ 16
  pub position : parts.registers.position < 2 ^ 16
  pub source_number : parts.display.source.number < 2 ^ 16
  pub crc : parts.display.crc < 2 ^ 16
  pub requester : parts.display.requester < 2 ^ 32
  pub clock : parts.display.clock < 2 ^ 64
