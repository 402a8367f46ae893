-- A sign file: what its octets say, as they stand in a TOML document.
use Rattle.std.specs.Prelude.{ℕ, ◌&&◌, List, if◌then◌else◌, Option, None, Some, codes, map}
use Rattle.std.specs.Str.{is_utf8}
use Rattle.toml.specs.Data.{Members}
use Rattle.toml.specs.Parse.{parse_document}
use Rattle.sign_font.specs.Sign.{SignData, sign_of}
use Rattle.sign_file.specs.declared.file.SignFile.{SignFile}
use Rattle.message_store.specs.declared.limits.StoreLimits.{StoreLimits}
use Rattle.message_store.specs.Slot.{PermanentData, permanent_of}
use Rattle.sign_file.specs.Keys.{◌>>=◌, list_at, number_at, number_or, text_at}
use Rattle.sign_file.specs.Nesting.{is_shallow}
use Rattle.sign_file.specs.SignKeys.{sign_of_table}

-- A sign file has a sign, the limits of its message store, and permanent messages (own).
pub record FileData : Type 0 where
  pub sign : SignData
  pub limits : StoreLimits
  pub permanents : List PermanentData

-- The keys of the limits of the message store (NTCIP 1203 v03, group dmsMessage).
unfoldable pub limits_of_table : Members → Option StoreLimits
limits_of_table members = do
  slots ← number_at 65535 (codes "slots") members
  bytes ← number_at 4294967295 (codes "bytes") members
  max_string ← number_at 65535 (codes "max_string") members
  Some (record { slots = slots; bytes = bytes; max_string = max_string })

-- The keys of `[[permanent]]` (NTCIP 1203 v03, object dmsMessageTable).
unfoldable pub permanent_of_table : Members → Option PermanentData
permanent_of_table members = do
  multi ← text_at (codes "multi") members
  priority ← number_or 255 1 (codes "priority") members
  beacon ← number_or 255 0 (codes "beacon") members
  pixel ← number_or 255 0 (codes "pixel") members
  Some (record { multi = multi; priority = priority; beacon = beacon; pixel = pixel })

-- The keys of a sign file (own).
unfoldable pub file_of_table : Members → Option FileData
file_of_table members = do
  sign ← sign_of_table members
  limits ← limits_of_table members
  permanents ← list_at permanent_of_table (codes "permanent") members
  Some (record { sign = sign; limits = limits; permanents = permanents })

-- The sign file that these octets are: text in UTF-8 that nests no deeper than a sign file may, a TOML document, and its keys (own).
unfoldable pub file_of_octets : List ℕ → Option FileData
file_of_octets octets =
    if is_utf8 octets && is_shallow octets then parse_document octets >>= file_of_table
    else None

-- A sign file without where it lies in memory (own).
abbrev pub file_of : SignFile → FileData
file_of file = record {
  sign = sign_of file.sign;
  limits = file.limits;
  permanents = map permanent_of file.permanents.items;
}
