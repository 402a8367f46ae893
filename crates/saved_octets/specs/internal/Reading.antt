-- What is kept of messages that are read one after the other.
use Rattle.std.specs.Prelude.{◌≡◌, ℕ, ◌+◌, ◌-◌, List, ◌++◌, take, drop, length, replicate, Result, Ok, Err}
use Rattle.std.specs.List.{sum_by}
use Rattle.message_store.specs.Slot.{SlotData, StoreData, empty_slot, slot_bytes}
use Rattle.saved_octets.specs.declared.fault.StateFault.{StateFault}
use Rattle.saved_octets.specs.Slots.{slots_in}
use Rattle.saved_octets.specs.Field.{◌>>=◌}

-- the octets after what was read (own)
abbrev pub rest_of : {A : Type 0} → Result (A × List ℕ) StateFault → Result (List ℕ) StateFault
rest_of (Ok x) = Ok x.1
rest_of (Err fault) = Err fault

-- messages that were read before others (own)
abbrev pub behind : List SlotData → Result (List SlotData × List ℕ) StateFault → Result (List SlotData × List ℕ) StateFault
behind front read = read >>= λ x. Ok (front ++ x.0, x.1)

-- so many messages of a store are those that were read, all others are empty, and so many octets are left for their texts (own)
pub record IsFilling (old new : StoreData) (octets rest : List ℕ) (done left : ℕ) : Type 0 where
  pub read : behind (take done new.slots) (slots_in old.limits (old.limits.slots - done) left rest)
      ≡ slots_in old.limits old.limits.slots old.limits.bytes octets
  pub others : drop done new.slots ≡ replicate (old.limits.slots - done) empty_slot
  pub room : left + sum_by slot_bytes new.slots ≡ old.limits.bytes
  pub count : length new.slots ≡ old.limits.slots
  pub same : new ≡ record old { slots = new.slots }
