-- What the octets of a sign file come to.
use Rattle.std.proofs.Common.{◌≡◌, ℕ, true, false, List, Option, None, Some, IfSome, Result, Err, inl, inr, refl}
use Rattle.std.specs.Prelude.{is_none}
use Rattle.std.proofs.lemmas.Bool.{cases_Bool}
use Rattle.sign_font.specs.Limits.{first_fault}
use Rattle.sign_font.specs.Sign.{SignData}
use Rattle.sign_font.specs.declared.fault.SignFault.{SignFault}
use Rattle.sign_font.specs.declared.fault.SignFault.TheVariants as sign_faults
use Rattle.message_store.specs.Limits.{can_be_made}
use Rattle.message_store.specs.declared.fault.StoreMade.TheVariants as store_faults
use Rattle.sign_file.specs.SignFile.{FileData, file_of_octets}
use Rattle.sign_report.specs.Setup.{is_whole, is_made}

-- octets that aren't read as a sign file aren't made into one
pub unread : (octets : List ℕ) → file_of_octets octets ≡ None → false ≡ is_made octets
unfolding is_whole
unread octets is = rw is refl

-- a file whose sign and message table are made is such a file
pub taken : (octets : List ℕ) (file : FileData) → file_of_octets octets ≡ Some file → first_fault file.sign ≡ None
    → can_be_made file.limits file.permanents ≡ true → true ≡ is_made octets
unfolding is_whole
taken octets file is none can = rw (is, none, can) refl

-- a file whose message table isn't made isn't taken
pub unmade : (octets : List ℕ) (file : FileData) → file_of_octets octets ≡ Some file → first_fault file.sign ≡ None
    → (can_be_made file.limits file.permanents ≡ true → store_faults.BadLimit ≡ store_faults.Memory) → false ≡ is_made octets
unfolding is_whole
unmade octets file is none memory =
    elim (cases_Bool (can_be_made file.limits file.permanents)) [
      | inl can ↦ absurd (let other = memory can in cc)
      | inr can't ↦ rw (is, none, can't) refl
    ]

refused_by : (file : FileData) (first : Option SignFault) (fault : SignFault) → IfSome first (λ f. let r : Result SignData SignFault = Err fault in r ≡ Err f) → (first ≡ None → fault ≡ sign_faults.Memory)
    → (fault ≡ sign_faults.Memory → ⊥) → is_none first ≡ false
refused_by file None fault faulty memory other = absurd (other (memory refl))
refused_by file (Some f) fault faulty memory other = refl

-- a file whose sign is refused isn't taken
pub refused : (octets : List ℕ) (file : FileData) (fault : SignFault) → file_of_octets octets ≡ Some file
    → IfSome (first_fault file.sign) (λ f. let r : Result SignData SignFault = Err fault in r ≡ Err f) → (first_fault file.sign ≡ None → fault ≡ sign_faults.Memory)
    → (fault ≡ sign_faults.Memory → ⊥) → false ≡ is_made octets
unfolding is_whole
refused octets file fault is faulty memory other = rw (is, refused_by file (first_fault file.sign) fault faulty memory other) refl
