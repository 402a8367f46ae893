-- The sign of a sign file.
use Rattle.std.proofs.Common.{◌≡◌, ℕ, List, Option, None, Some, IfSome, Result, Err, inl, inr, refl}
use Rattle.sign_font.specs.Limits.{first_fault}
use Rattle.sign_font.specs.Sign.{SignData}
use Rattle.sign_font.specs.declared.fault.SignFault.{SignFault}
use Rattle.sign_font.specs.declared.fault.SignFault.TheVariants as faults
use Rattle.sign_file.specs.SignFile.{FileData, file_of_octets}
use Rattle.latsefur_c.specs.Outcome.{HasNoSign, sign_of_file, why_unmade}

-- the sign of a file is there if it has no fault
pub made : (octets : List ℕ) (file : FileData) (sign : SignData) → file_of_octets octets ≡ Some file → first_fault file.sign ≡ None → sign ≡ file.sign → sign_of_file octets ≡ Some sign
unfolding sign_of_file
made octets file sign is none same = rw (is, none, same) refl

unsound : (octets : List ℕ) (file : FileData) (fault : SignFault) → file_of_octets octets ≡ Some file → first_fault file.sign ≡ Some fault → sign_of_file octets ≡ None
unfolding sign_of_file
unsound octets file fault is first = rw (is, first) refl

fault_or_memory : (octets : List ℕ) (file : FileData) (fault : SignFault) → file_of_octets octets ≡ Some file → sign_of_file octets ≡ None → HasNoSign octets (why_unmade fault)
fault_or_memory octets file faults.Memory is none = inl refl
fault_or_memory octets file faults.BadSize is none = inr (inr (refl, (file, is, none)))
fault_or_memory octets file faults.BadFont is none = inr (inr (refl, (file, is, none)))
fault_or_memory octets file faults.BadCell is none = inr (inr (refl, (file, is, none)))
fault_or_memory octets file faults.BadDefault is none = inr (inr (refl, (file, is, none)))
fault_or_memory octets file faults.BadLimit is none = inr (inr (refl, (file, is, none)))

-- a sign that isn't made has a fault, or there was no memory
unmade_by : (octets : List ℕ) (file : FileData) (first : Option SignFault) (fault : SignFault) → file_of_octets octets ≡ Some file → first_fault file.sign ≡ first
    → IfSome first (λ f. let r : Result SignData SignFault = Err fault in r ≡ Err f) → (first ≡ None → fault ≡ faults.Memory) → HasNoSign octets (why_unmade fault)
unmade_by octets file None fault is first_is faulty memory = rw (memory refl) (inl refl)
unmade_by octets file (Some f) fault is first_is faulty memory = fault_or_memory octets file fault is (unsound octets file f is first_is)

pub unmade : (octets : List ℕ) (file : FileData) (fault : SignFault) → file_of_octets octets ≡ Some file
    → IfSome (first_fault file.sign) (λ f. let r : Result SignData SignFault = Err fault in r ≡ Err f) → (first_fault file.sign ≡ None → fault ≡ faults.Memory)
    → HasNoSign octets (why_unmade fault)
unmade octets file fault is faulty memory = unmade_by octets file (first_fault file.sign) fault is refl faulty memory
