-- The state of the controller that a handle holds, as octets.
use Rattle.std.specs.Prelude.{◌≡◌, ◌⊎◌, ◌<◌, ◌≤◌, ℕ, List, Option, Some, None, IsSomeAnd, Result, Ok, Err, length}
use Rattle.step_count.specs.Count.{raised}
use Rattle.saved_octets.specs.declared.fault.StateFault.{StateFault}
use Rattle.saved_octets.specs.Fault.{fault_code}
use Rattle.saved_octets.specs.Field.{placed}
use Rattle.sign_control.specs.Code.{id_code}
use Rattle.sign_control.specs.Saved.{restored, save_size, saved_octets}
use Rattle.sign_control.specs.State.{ControllerData, StateData}
use Rattle.latsefur_c.specs.Held.{IsIn}
use Rattle.latsefur_c.specs.Told.{in_front}

-- the message that follows a duration stands at the front of a buffer, and the controller stays; or the buffer is too small (5), or
-- there is no controller (9), and the buffer stays (own)
abbrev pub TellsEnd : Option ControllerData → Option ControllerData → List ℕ → List ℕ → ℕ → Type 0
TellsEnd None new was told outcome = (outcome ≡ 9) × (new ≡ None) × (told ≡ was)
TellsEnd (Some held) new was told outcome =
    (new ≡ Some held)
    × (((outcome ≡ 5) × (length was < 5) × (told ≡ was))
    ⊎ ((outcome ≡ 0) × ((octets : List ℕ) × (length octets ≡ 5) × (id_code octets ≡ held.state.end) × (told ≡ in_front octets was))))

-- a state stands at the front of a buffer, and its octets are counted; or the buffer is too small for any state of this table (5), and
-- nothing is written (own)
abbrev pub SavesState : StateData → List ℕ → List ℕ → ℕ → ℕ → ℕ → Type 0
SavesState state was octets before count outcome =
    ((outcome ≡ 5) × (length was < save_size state.store.limits) × (octets ≡ was) × (count ≡ before))
    ⊎ ((outcome ≡ 0) × (save_size state.store.limits ≤ length was) × (count ≡ length (saved_octets state))
    × (octets ≡ placed was 0 (saved_octets state)))

-- the same of the controller of a handle, which stays; or there is none (9), and nothing is written (own)
abbrev pub SavesHeld : Option ControllerData → Option ControllerData → List ℕ → List ℕ → ℕ → ℕ → ℕ → Type 0
SavesHeld None new was octets before count outcome = (outcome ≡ 9) × (new ≡ None) × (octets ≡ was) × (count ≡ before)
SavesHeld (Some held) new was octets before count outcome =
    (new ≡ Some held) × SavesState held.state was octets before count outcome

-- a controller of the same sign in a state, whose revision has risen by one (own)
abbrev pub IsInState : ControllerData → StateData → ControllerData → Type 0
IsInState held state after = (after.state ≡ state) × (after.sign ≡ held.sign) × (after.revision ≡ raised held.revision 1)

-- a controller has the state that octets give it, and 0 is told; or they are refused (1), and why is told, and it stays as it is (own)
abbrev pub RestoresTo : Result StateData StateFault → ControllerData → Option ControllerData → ℕ → ℕ → Type 0
RestoresTo (Ok state) held new told outcome = (outcome ≡ 0) × IsSomeAnd new (IsInState held state) × (told ≡ 0)
RestoresTo (Err fault) held new told outcome = (outcome ≡ 1) × IsSomeAnd new (IsIn held) × (told ≡ fault_code fault)

-- the same of the controller of a handle; or there is none (9), and nothing is told (own)
abbrev pub RestoresHeld : Option ControllerData → List ℕ → Option ControllerData → ℕ → ℕ → ℕ → Type 0
RestoresHeld None octets new was told outcome = (outcome ≡ 9) × (new ≡ None) × (told ≡ was)
RestoresHeld (Some held) octets new was told outcome = RestoresTo (restored held.sign held.state.store octets) held new told outcome
