-- What a sign file's octets set up for a run.
use Rattle.std.proofs.Common.{◌≡◌, ℕ, true, false, List, Option, None, Some, IfSome, Result, Ok, Err, ◌⊎◌, inl, inr, refl, ap}
use Rattle.std.proofs.lemmas.Bool.{cases_Bool}
use Rattle.sign_font.specs.Limits.{first_fault}
use Rattle.sign_font.specs.Sign.{SignData}
use Rattle.sign_font.specs.declared.fault.SignFault.{SignFault}
use Rattle.sign_font.specs.declared.fault.SignFault.TheVariants as sign_faults
use Rattle.message_store.specs.Limits.{can_be_made, made}
use Rattle.message_store.specs.Slot.{StoreData}
use Rattle.message_store.specs.declared.fault.StoreMade.{StoreMade}
use Rattle.message_store.specs.declared.fault.StoreMade.TheVariants as store_faults
use Rattle.sign_file.specs.declared.fault.FileFault.{FileFault}
use Rattle.sign_file.specs.declared.fault.FileFault.TheVariants as file_faults
use Rattle.sign_file.specs.Keys.{Gives}
use Rattle.sign_file.specs.SignFile.{FileData, file_of, file_of_octets}
use Rattle.tool_streams.specs.declared.fault.ToolFault.TheVariants as faults
use Rattle.sign_tool.specs.Faults.{refusal, unmade, unread}
use Rattle.sign_tool.specs.FileSetup.{setup_of_octets, unless_refused, with_store}

-- a fault that isn't refused memory is the first one
first_one : (file : FileData) (fault : SignFault) → (refusal fault ≡ faults.Memory) ⊎ (unless_refused file (Some fault) ≡ Err (refusal fault))
first_one file sign_faults.Memory = inl refl
first_one file sign_faults.BadSize = inr refl
first_one file sign_faults.BadFont = inr refl
first_one file sign_faults.BadCell = inr refl
first_one file sign_faults.BadDefault = inr refl
first_one file sign_faults.BadLimit = inr refl

refused_by : (file : FileData) (first : Option SignFault) (fault : SignFault) → IfSome first (λ f. let r : Result SignData SignFault = Err fault in r ≡ Err f) → (first ≡ None → fault ≡ sign_faults.Memory)
    → (refusal fault ≡ faults.Memory) ⊎ (unless_refused file first ≡ Err (refusal fault))
refused_by file None fault faulty memory = inl (ap refusal (memory refl))
refused_by file (Some f) fault faulty memory =
    let same : fault ≡ f = cc in
    rw same (first_one file f)

-- a sign that is refused is refused by its first fault, or memory was refused
pub refused : (octets : List ℕ) (file : FileData) (fault : SignFault) → file_of_octets octets ≡ Some file
    → IfSome (first_fault file.sign) (λ f. let r : Result SignData SignFault = Err fault in r ≡ Err f) → (first_fault file.sign ≡ None → fault ≡ sign_faults.Memory)
    → (refusal fault ≡ faults.Memory) ⊎ (setup_of_octets octets ≡ Err (refusal fault))
unfolding setup_of_octets
refused octets file fault is faulty memory = rw is (refused_by file (first_fault file.sign) fault faulty memory)

-- a file whose sign has no fault sets up what its store comes to
its_store : (octets : List ℕ) (file : FileData) → file_of_octets octets ≡ Some file → first_fault file.sign ≡ None → setup_of_octets octets ≡ with_store file
unfolding setup_of_octets
its_store octets file is none = rw (is, none) refl

-- a store that isn't made is refused by its limits, or memory was refused
pub unmade_by : (octets : List ℕ) (file : FileData) (fault : StoreMade) → file_of_octets octets ≡ Some file → first_fault file.sign ≡ None
    → (can_be_made file.limits file.permanents ≡ false → fault ≡ store_faults.BadLimit) → (can_be_made file.limits file.permanents ≡ true → fault ≡ store_faults.Memory)
    → (unmade fault ≡ faults.Memory) ⊎ (setup_of_octets octets ≡ Err (unmade fault))
unmade_by octets file fault is none bad memory =
    elim (cases_Bool (can_be_made file.limits file.permanents)) [
      | inl can ↦ inl (ap unmade (memory can))
      | inr can't ↦
          let limit = bad can't in
          rw limit (inr (rw (its_store octets file is none, can't) refl))
    ]

-- a sign and a store that are made are what the file sets up
pub set_up : (octets : List ℕ) (file : FileData) (sign : SignData) (store : StoreData) → file_of_octets octets ≡ Some file → first_fault file.sign ≡ None
    → can_be_made file.limits file.permanents ≡ true → sign ≡ file.sign → store ≡ made file.limits file.permanents
    → setup_of_octets octets ≡ Ok (record { sign = sign; store = store })
set_up octets file sign store is none can same kept = rw (its_store octets file is none, can, same, kept) refl

-- octets that aren't read as a sign file set up nothing, or there was no memory
pub unread_by : (octets : List ℕ) (fault : FileFault) → Gives file_of (Err fault) (file_of_octets octets) → (unread fault ≡ faults.Memory) ⊎ (setup_of_octets octets ≡ Err (unread fault))
unfolding setup_of_octets
unread_by octets file_faults.Bad none = inr (rw none refl)
unread_by octets file_faults.Memory refused = inl refl
