-- What octets say of a sign file.
use Rattle.std.proofs.Common.{◌≡◌, ℕ, true, false, List, None, Some, IsUtf8, inl, inr}
use Rattle.std.proofs.lemmas.Bool.{cases_Bool}
use Rattle.std.proofs.lemmas.Str.{IsUtf8-from_is_utf8, is_utf8-from_IsUtf8}
use Rattle.std.specs.Str.{is_utf8}
use Rattle.toml.specs.Data.{Members}
use Rattle.toml.specs.Parse.{parse_document}
use Rattle.sign_file.specs.Nesting.{is_shallow}
use Rattle.sign_file.specs.SignFile.{file_of_octets, file_of_table}

not_utf8 : (octets : List ℕ) → ¬ (IsUtf8 octets) → is_utf8 octets ≡ false
not_utf8 octets none = elim (cases_Bool (is_utf8 octets)) [
  | inl is ↦ absurd (none (IsUtf8-from_is_utf8 octets is))
  | inr differs ↦ differs
]

-- octets that are no text are no sign file
pub no_text : (octets : List ℕ) → ¬ (IsUtf8 octets) → file_of_octets octets ≡ None
unfolding file_of_octets
no_text octets none = rw (not_utf8 octets none)

-- the keys of a document are those of the sign file
pub document : (octets text : List ℕ) (keys : Members) → text ≡ octets → IsUtf8 octets → is_shallow octets ≡ true → parse_document text ≡ Some keys
    → file_of_octets octets ≡ file_of_table keys
unfolding file_of_octets
document octets text keys same is shallow parsed = rw (is_utf8-from_IsUtf8 octets is, shallow, ← same, parsed)
