-- Whether a sign file is taken, and what it sets up.
use Rattle.std.specs.Prelude.{◌≡◌, ℕ, Bool, false, ◌&&◌, List, Option, None, Some, if◌then◌else◌, is_none}
use Rattle.std.specs.Option.{option_map}
use Rattle.sign_font.specs.Limits.{first_fault}
use Rattle.sign_font.specs.Sign.{SignData}
use Rattle.message_store.specs.Limits.{IsKept, can_be_made}
use Rattle.message_store.specs.Slot.{StoreData}
use Rattle.sign_file.specs.SignFile.{FileData, file_of_octets}
use Rattle.sign_words.specs.declared.describe.Setup.{Setup}
use Rattle.sign_report.specs.Lines.{has_file_lines}

-- whether a file is there whose sign has no fault, and whose message table can be made (own)
unfoldable pub is_whole : Option FileData → Bool
is_whole None = false
is_whole (Some file) = is_none (first_fault file.sign) && can_be_made file.limits file.permanents

-- whether octets are a sign file whose sign has no fault, and whose message table can be made (own)
abbrev pub is_made : List ℕ → Bool
is_made octets = is_whole (file_of_octets octets)

-- whether octets are a sign file that the program takes: they are such a file, and each of their lines may stand before a mark (own)
abbrev pub is_taken : List ℕ → Bool
is_taken octets = is_made octets && has_file_lines octets

-- the sign that octets set up, if the program takes them (own)
abbrev pub sign_taken : List ℕ → Option SignData
sign_taken octets = if is_taken octets then option_map (λ f. f.sign) (file_of_octets octets) else None

-- the sign of what is set up, if anything is (own)
abbrev pub sign_of : Option Setup → Option SignData
sign_of setup = option_map (λ s. s.sign) setup

-- octets are a sign file with this sign, and with the permanent messages of this store (own)
pub record SetsUp (octets : List ℕ) (sign : SignData) (store : StoreData) : Type 0 where
  pub file : FileData
  pub read : file_of_octets octets ≡ Some file
  pub sign_is : sign ≡ file.sign
  pub permanents : store.permanent ≡ file.permanents
  pub kept : IsKept store
