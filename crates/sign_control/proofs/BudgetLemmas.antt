-- No command takes a store past its budget.
use Rattle.std.proofs.Common.{◌≡◌, ◌∙◌, ◌≤◌, ℕ, ◌+◌, ◌-◌, Bool, true, false, not, ◌==◌, nat_lt, if◌then◌else◌, List, [], ◌∷◌, length, take, Option, Some, None, Result, Ok, Err, refl, ap, inl, inr, arith}
use Rattle.std.proofs.lemmas.Bool.{cases_Bool, ltb-false, ltb-true}
use Rattle.std.specs.List.{sum_by}
use Rattle.std.proofs.lemmas.List.{length-set, length-replicate, set_past}
use Rattle.std.proofs.lemmas.List.Folds.{sum_by-replicate}
use Rattle.std.proofs.lemmas.List.Sums.{sum_by-set, count_by-le-length}
use Rattle.sign_font.specs.declared.fault.DefaultFault.{DefaultFault}
use Rattle.sign_font.specs.declared.parts.Defaults.{Defaults}
use Rattle.sign_font.specs.Defaults.{default_fault, under}
use Rattle.sign_font.specs.Sign.{SignData}
use Rattle.message_store.specs.declared.fault.StoreFault.{StoreFault}
use Rattle.message_store.specs.declared.fault.StoreFault.TheVariants as fault
use Rattle.message_store.specs.declared.limits.StoreLimits.{StoreLimits}
use Rattle.message_store.specs.Codes.{request_numbered}
use Rattle.message_store.specs.Slot.{SlotData, StoreData, empty_slot, is_modifying, is_not_used, is_validating, slot_at, slot_bytes, used_bytes}
use Rattle.message_store.specs.Step.{addressed, beacon_set, changed, cleared, multi_set, owner_set, pixel_service_set, priority_set, requested, requested_slot, with_change, with_slot, writable}
use Rattle.message_store.specs.Work.{JudgedData, judged_status, judgement, waiting, worked, worked_at}
use Rattle.sign_control.specs.declared.code.ActivateError.{ActivateError}
use Rattle.sign_control.specs.declared.code.ActivationCode.{ActivationCode}
use Rattle.sign_control.specs.declared.command.Command.{Command}
use Rattle.sign_control.specs.declared.command.Command.TheVariants as command
use Rattle.message_store.specs.Judged.{is_accepted}
use Rattle.sign_control.specs.Activation.{CandidateData, named, verdict_of}
use Rattle.sign_control.specs.Code.{activation_code}
use Rattle.sign_control.specs.Run.{EveryRunStaysWithin, run}
use Rattle.sign_control.specs.State.{StateData, Stepped}
use Rattle.sign_control.specs.Step.{activated, defaults_step, judged_step, step, store_step, with_default, work_step}
use Rattle.sign_control.specs.Time.{ticked}

-- ---- the store

-- a store keeps its limits and its slots, and stays within its budget
pub record Keeps (old new : StoreData) : Type 0 where
  pub limits : new.limits ≡ old.limits
  pub count : length new.slots ≡ length old.slots
  pub within : used_bytes new ≤ old.limits.bytes

same : (store : StoreData) → used_bytes store ≤ store.limits.bytes → Keeps store store
same store within = record { limits = refl; count = refl; within = within }

after : (one two three : StoreData) → Keeps one two → Keeps two three → Keeps one three
after one two three a b = record {
  limits = b.limits ∙ a.limits;
  count = b.count ∙ a.count;
  within = omega (arith, b.within, ap (λ (l : StoreLimits). l.bytes) a.limits);
}

-- what a slot may become: its octets still find room
abbrev Fits : StoreData → SlotData → Result SlotData StoreFault → Type 0
Fits store old (Ok new) = used_bytes store + slot_bytes new ≤ store.limits.bytes + slot_bytes old
Fits store old (Err fault) = Unit {0}

-- what a call may make of a store
abbrev KeepsIn : StoreData → Result StoreData StoreFault → Type 0
KeepsIn old (Ok new) = Keeps old new
KeepsIn old (Err fault) = Unit {0}

keeps-slot : (store : StoreData) (index : ℕ) (new : SlotData) → used_bytes store ≤ store.limits.bytes → Fits store (slot_at store index) (Ok new) → Keeps store (with_slot store index new)
keeps-slot store index new within fits = record {
  limits = refl;
  count = length-set store.slots index new;
  within = elim (cases_Bool (nat_lt index (length store.slots))) [
    | inl below ↦ omega (arith, fits, sum_by-set slot_bytes store.slots index new empty_slot (ltb-true index (length store.slots) below))
    | inr past ↦ omega (arith, within, ap (λ (l : List SlotData). sum_by slot_bytes l) (set_past store.slots index new (ltb-false index (length store.slots) past)))
  ];
}

keeps-change : (store : StoreData) (index : ℕ) (change : Result SlotData StoreFault) → used_bytes store ≤ store.limits.bytes → Fits store (slot_at store index) change → KeepsIn store (with_change store index change)
keeps-change store index (Ok new) within fits = keeps-slot store index new within fits
keeps-change store index (Err fault) within fits = tt

keeps-changed : (store : StoreData) (index : Result ℕ StoreFault) (change : SlotData → Result SlotData StoreFault) → used_bytes store ≤ store.limits.bytes
    → ((slot : SlotData) → Fits store slot (change slot)) → KeepsIn store (changed store index change)
keeps-changed store (Ok index) change within fits = keeps-change store index (change (slot_at store index)) within (fits (slot_at store index))
keeps-changed store (Err fault) change within fits = tt

fits-unless : (store : StoreData) (slot : SlotData) (test : Bool) (fault : StoreFault) (other : Result SlotData StoreFault) → (test ≡ false → Fits store slot other)
    → Fits store slot (if test then Err fault else other)
fits-unless store slot true fault other fits = tt
fits-unless store slot false fault other fits = fits refl

fits-where : (store : StoreData) (slot : SlotData) (test : Bool) (fault : StoreFault) (other : Result SlotData StoreFault) → Fits store slot other
    → Fits store slot (if test then other else Err fault)
fits-where store slot true fault other fits = fits
fits-where store slot false fault other fits = tt

fits-requested : (store : StoreData) (code : ℕ) (slot : SlotData) → used_bytes store ≤ store.limits.bytes → Fits store slot (requested_slot (request_numbered code) slot)
fits-requested store code slot within = elim (cases_Bool (code == 6)) [
  | inl six ↦ rw six (fits-unless store slot (is_validating slot.status) fault.WrongState _ (λ waits. omega (arith, within)))
  | inr six ↦ rw six (elim (cases_Bool (code == 7)) [
    | inl seven ↦ rw seven (fits-where store slot (is_modifying slot.status) fault.WrongState _ (omega (arith, within)))
    | inr seven ↦ rw seven (elim (cases_Bool (code == 8)) [
      | inl eight ↦ rw eight (omega (arith, within))
      | inr eight ↦ rw eight tt
    ])
  ])
]

fits-multi : (store : StoreData) (slot : SlotData) (text : List ℕ)
    → Fits store slot (if nat_lt store.limits.max_string (length text) then Err fault.TooLong
    else (if nat_lt store.limits.bytes (used_bytes store - length slot.multi + length text) then Err fault.NoSpace else Ok (record slot { multi = text })))
fits-multi store slot text = fits-unless store slot (nat_lt store.limits.max_string (length text)) fault.TooLong _
    (λ short. fits-unless store slot (nat_lt store.limits.bytes (used_bytes store - length slot.multi + length text)) fault.NoSpace (Ok (record slot { multi = text }))
    (λ room. omega (arith, ltb-false store.limits.bytes (used_bytes store - length slot.multi + length text) room)))

fits-owner : (store : StoreData) (slot : SlotData) (owner : List ℕ)
    → Fits store slot (if nat_lt 127 (length owner) then Err fault.TooLong
    else (if nat_lt store.limits.bytes (used_bytes store - length slot.owner + length owner) then Err fault.NoSpace else Ok (record slot { owner = owner })))
fits-owner store slot owner = fits-unless store slot (nat_lt 127 (length owner)) fault.TooLong _
    (λ short. fits-unless store slot (nat_lt store.limits.bytes (used_bytes store - length slot.owner + length owner)) fault.NoSpace (Ok (record slot { owner = owner }))
    (λ room. omega (arith, ltb-false store.limits.bytes (used_bytes store - length slot.owner + length owner) room)))

keeps-cleared : (store : StoreData) → Keeps store (cleared store)
keeps-cleared store = record {
  limits = refl;
  count = length-replicate (length store.slots) empty_slot;
  within = omega (arith, sum_by-replicate slot_bytes (length store.slots) empty_slot);
}

keeps-worked : (sign : SignData) (store : StoreData) (index : Option ℕ) → used_bytes store ≤ store.limits.bytes → Keeps store (worked_at sign store index).store
keeps-worked sign store None within = same store within
keeps-worked sign store (Some index) within =
    keeps-slot store index (record (slot_at store index) { status = judged_status (judgement sign (slot_at store index)).error }) within (omega (arith, within))

-- ---- the step

keeps-store : (state : StateData) (outcome : Result StoreData StoreFault) → used_bytes state.store ≤ state.store.limits.bytes → KeepsIn state.store outcome
    → Keeps state.store (store_step state outcome).state.store
keeps-store state (Ok store) within keeps = keeps
keeps-store state (Err fault) within keeps = same state.store within

-- a step that leaves the store as it is
abbrev Leaves : StateData → Stepped → Type 0
Leaves state stepped = stepped.state.store ≡ state.store

leaves-if : (state : StateData) (test : Bool) (one other : Stepped) → Leaves state one → Leaves state other → Leaves state (if test then one else other)
leaves-if state true one other a b = a
leaves-if state false one other a b = b

leaves-default : (state : StateData) (defaults : Defaults) (fault : Option DefaultFault) → Leaves state (defaults_step state defaults fault)
leaves-default state defaults None = refl
leaves-default state defaults (Some fault) = refl

leaves-ticked : (sign : SignData) (state : StateData) (tenths : ℕ) (left : Option ℕ) → Leaves state (ticked sign state tenths left)
leaves-ticked sign state tenths None = refl
leaves-ticked sign state tenths (Some left) = leaves-if state _ _ _ refl refl

leaves-activated : (sign : SignData) (state : StateData) (code : ActivationCode) (message : Result CandidateData ActivateError) → Leaves state (activated sign state code message)
leaves-activated sign state code (Err error) = refl
leaves-activated sign state code (Ok message) =
    leaves-if state _ _ _ refl (leaves-if state (is_accepted (verdict_of sign state.text message)) _ _ refl refl)

judged-store : (state : StateData) (store : StoreData) (judged : Option JudgedData) → (judged_step state store judged).state.store ≡ store
judged-store state store None = refl
judged-store state store (Some judged) = refl

keeps-same : (old new : StoreData) → used_bytes old ≤ old.limits.bytes → new ≡ old → Keeps old new
keeps-same old new within is = record {
  limits = ap (λ (s : StoreData). s.limits) is;
  count = ap (λ (s : StoreData). length s.slots) is;
  within = omega (arith, within, ap (λ (s : StoreData). used_bytes s) is);
}

keeps-work : (sign : SignData) (state : StateData) → used_bytes state.store ≤ state.store.limits.bytes → Keeps state.store (work_step sign state).state.store
keeps-work sign state within =
    let worked' = worked (under sign state.defaults) state.store in
    let keeps = keeps-worked (under sign state.defaults) state.store (waiting state.store) within in
    let is = judged-store state worked'.store worked'.judged in
    record {
      limits = ap (λ (s : StoreData). s.limits) is ∙ keeps.limits;
      count = ap (λ (s : StoreData). length s.slots) is ∙ keeps.count;
      within = omega (arith, keeps.within, ap (λ (s : StoreData). used_bytes s) is);
    }

keeps-step : (sign : SignData) (state : StateData) (c : Command) → used_bytes state.store ≤ state.store.limits.bytes → Keeps state.store (step sign state c).state.store
keeps-step sign state (command.Request message code) within =
    keeps-store state (requested state.store message code) within
    (keeps-changed state.store (addressed state.store message) (requested_slot (request_numbered code)) within (λ slot. fits-requested state.store code slot within))
keeps-step sign state (command.SetMulti message text) within =
    keeps-store state (multi_set state.store message text.now) within
    (keeps-changed state.store (writable state.store message) _ within
    (λ slot. fits-multi state.store slot text.now))
keeps-step sign state (command.SetOwner message owner) within =
    keeps-store state (owner_set state.store message owner.now) within
    (keeps-changed state.store (writable state.store message) _ within
    (λ slot. fits-owner state.store slot owner.now))
keeps-step sign state (command.SetPriority message priority) within =
    keeps-store state (priority_set state.store message priority) within
    (keeps-changed state.store (writable state.store message) _ within (λ slot. fits-unless state.store slot (priority == 0) fault.BadValue (Ok (record slot { priority = priority })) (λ is. omega (arith, within))))
keeps-step sign state (command.SetBeacon message beacon) within =
    keeps-store state (beacon_set state.store message beacon) within
    (keeps-changed state.store (writable state.store message) _ within (λ slot. fits-unless state.store slot (nat_lt 1 beacon) fault.BadValue (Ok (record slot { beacon = beacon })) (λ is. omega (arith, within))))
keeps-step sign state (command.SetPixelService message pixel) within =
    keeps-store state (pixel_service_set state.store message pixel) within
    (keeps-changed state.store (writable state.store message) _ within (λ slot. fits-unless state.store slot (nat_lt 1 pixel) fault.BadValue (Ok (record slot { pixel = pixel })) (λ is. omega (arith, within))))
keeps-step sign state command.Clear within = keeps-cleared state.store
keeps-step sign state command.Work within = keeps-work sign state within
keeps-step sign state (command.Activate octets) within =
    let code = activation_code octets in
    keeps-same state.store _ within (leaves-activated sign state code (named state.store state.display state.defaults code.id))
keeps-step sign state (command.SetEnd octets) within = same state.store within
keeps-step sign state (command.Tick tenths) within = keeps-same state.store _ within (leaves-ticked sign state tenths state.display.remaining)
keeps-step sign state (command.SetDefault field value) within =
    let defaults = with_default state.defaults field value in
    keeps-same state.store _ within (leaves-default state defaults (default_fault sign defaults))

-- ---- the run

keeps-run : (sign : SignData) (state : StateData) (commands : List Command) → used_bytes state.store ≤ state.store.limits.bytes → Keeps state.store (run sign state commands).state.store
keeps-run sign state [] within = same state.store within
keeps-run sign state (first ∷ commands) within =
    let next = (step sign state first).state in
    let keeps = keeps-step sign state first within in
    after state.store next.store (run sign next commands).state.store keeps
    (keeps-run sign next commands (omega (arith, keeps.within, ap (λ (l : StoreLimits). l.bytes) keeps.limits)))

pub every_run_stays_within : EveryRunStaysWithin
every_run_stays_within sign state commands kept n =
    let last = (run sign state (take n commands)).state.store in
    let keeps = keeps-run sign state (take n commands) kept.within in
    let bytes = ap (λ (l : StoreLimits). l.bytes) keeps.limits in
    record {
      limits_kept = keeps.limits;
      bytes = keeps.within;
      slots = omega (arith, keeps.count, kept.count, count_by-le-length (λ slot. not (is_not_used slot.status)) last.slots);
      budget = omega (arith, keeps.within, bytes);
    }
