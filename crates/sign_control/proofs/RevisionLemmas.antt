-- What commands change that leave the revision as it is.
use Rattle.std.proofs.Common.{◌≡◌, ◌∙◌, ◌≤◌, ◌<◌, ℕ, ◌-◌, ◌^◌, Bool, true, false, nat_le, nat_lt, if◌then◌else◌, List, [], ◌∷◌, fold, Option, Some, None, Result, Ok, Err, refl, sym, ap, arith}
use Rattle.step_count.specs.Count.{raised}
use Rattle.sign_font.specs.declared.fault.DefaultFault.{DefaultFault}
use Rattle.sign_font.specs.declared.parts.Defaults.{Defaults}
use Rattle.sign_font.specs.Defaults.{default_fault, under}
use Rattle.sign_font.specs.Sign.{SignData}
use Rattle.message_store.specs.declared.fault.StoreFault.{StoreFault}
use Rattle.message_store.specs.Judged.{is_accepted}
use Rattle.message_store.specs.Slot.{StoreData}
use Rattle.message_store.specs.Step.{beacon_set, cleared, multi_set, owner_set, pixel_service_set, priority_set, requested}
use Rattle.message_store.specs.Work.{waiting, worked_at}
use Rattle.sign_control.specs.declared.code.ActivateError.{ActivateError}
use Rattle.sign_control.specs.declared.code.ActivationCode.{ActivationCode}
use Rattle.sign_control.specs.declared.command.Command.{Command}
use Rattle.sign_control.specs.declared.command.Command.TheVariants as command
use Rattle.sign_control.specs.declared.command.Reply.{Reply}
use Rattle.sign_control.specs.Activation.{CandidateData, named, verdict_of}
use Rattle.sign_control.specs.Code.{activation_code}
use Rattle.sign_control.specs.Revision.{ChangesTheTimeAtMost, is_change, later_alone, revised}
use Rattle.sign_control.specs.Run.{run}
use Rattle.sign_control.specs.State.{StateData, Stepped}
use Rattle.sign_control.specs.Step.{activated, defaults_step, judged_activation, judged_step, step, store_step, with_default}
use Rattle.sign_control.specs.Time.{passed, ticked}

-- a step that is no change leaves this state
abbrev Leaves : StateData → Stepped → Type 0
Leaves state stepped = is_change stepped.reply ≡ false → stepped.state ≡ state

leaves-if : (state : StateData) (test : Bool) (one other : Stepped) → Leaves state one → Leaves state other → Leaves state (if test then one else other)
leaves-if state true one other a b = a
leaves-if state false one other a b = b

leaves-store : (state : StateData) (outcome : Result StoreData StoreFault) → Leaves state (store_step state outcome)
leaves-store state (Ok store) = λ still. absurd cc
leaves-store state (Err fault) = λ still. refl

leaves-work : (sign : SignData) (state : StateData) (index : Option ℕ) → Leaves state (judged_step state (worked_at sign state.store index).store (worked_at sign state.store index).judged)
leaves-work sign state None = λ still. refl
leaves-work sign state (Some index) = λ still. absurd cc

leaves-judged : (sign : SignData) (state : StateData) (code : ActivationCode) (message : CandidateData) → Leaves state (judged_activation state code message (verdict_of sign state.text message))
leaves-judged sign state code message = leaves-if state (is_accepted (verdict_of sign state.text message)) _ _ (λ still. absurd cc) (λ still. absurd cc)

leaves-activated : (sign : SignData) (state : StateData) (code : ActivationCode) (found : Result CandidateData ActivateError) → Leaves state (activated sign state code found)
leaves-activated sign state code (Err error) = λ still. absurd cc
leaves-activated sign state code (Ok message) = leaves-if state (nat_lt code.priority state.display.priority) _ _ (λ still. absurd cc) (leaves-judged sign state code message)

leaves-ticked : (sign : SignData) (state : StateData) (tenths : ℕ) (left : Option ℕ) → Leaves (record state { display = passed state.display tenths }) (ticked sign state tenths left)
leaves-ticked sign state tenths None = λ still. refl
leaves-ticked sign state tenths (Some left) =
    leaves-if (record state { display = passed state.display tenths }) (nat_le left tenths) _ _ (λ still. absurd cc) (λ still. refl)

leaves-defaults : (state : StateData) (defaults : Defaults) (fault : Option DefaultFault) → Leaves state (defaults_step state defaults fault)
leaves-defaults state defaults None = λ still. absurd cc
leaves-defaults state defaults (Some fault) = λ still. refl

leaves-step : (sign : SignData) (state : StateData) (c : Command) → Leaves (later_alone state c) (step sign state c)
leaves-step sign state (command.Request message code) = leaves-store state (requested state.store message code)
leaves-step sign state (command.SetMulti message text) = leaves-store state (multi_set state.store message text.now)
leaves-step sign state (command.SetOwner message owner) = leaves-store state (owner_set state.store message owner.now)
leaves-step sign state (command.SetPriority message priority) = leaves-store state (priority_set state.store message priority)
leaves-step sign state (command.SetBeacon message beacon) = leaves-store state (beacon_set state.store message beacon)
leaves-step sign state (command.SetPixelService message pixel) = leaves-store state (pixel_service_set state.store message pixel)
leaves-step sign state command.Clear = leaves-store state (Ok (cleared state.store))
leaves-step sign state command.Work = leaves-work (under sign state.defaults) state (waiting state.store)
leaves-step sign state (command.Activate octets) =
    let code = activation_code octets in leaves-activated sign state code (named state.store state.display state.defaults code.id)
leaves-step sign state (command.SetEnd octets) = λ still. absurd cc
leaves-step sign state (command.Tick tenths) = leaves-ticked sign state tenths state.display.remaining
leaves-step sign state (command.SetDefault field value) =
    let defaults = with_default state.defaults field value in leaves-defaults state defaults (default_fault sign defaults)

-- the revision never falls
rises : (revision : ℕ) (change : Bool) → revision ≤ (if change then raised revision 1 else revision)
rises revision true = omega arith
rises revision false = omega arith

never-falls : (revision : ℕ) (replies : List Reply) → revision ≤ fold revised revision replies
never-falls revision [] = omega arith
never-falls revision (reply ∷ replies) = omega (arith, rises revision (is_change reply), never-falls (revised revision reply) replies)

-- a change makes it another number
no-change : (revision last : ℕ) (change : Bool) → revision < 2 ^ 64 - 1 → (if change then raised revision 1 else revision) ≤ last → last ≡ revision → change ≡ false
no-change revision last true small risen same = absurd (omega (arith, small, risen, same))
no-change revision last false small risen same = refl

pub changes_the_time_at_most : ChangesTheTimeAtMost
changes_the_time_at_most sign state [] revision small same = refl
changes_the_time_at_most sign state (first ∷ commands) revision small same =
    let stepped = step sign state first in
    let risen = revised revision stepped.reply in
    let replies = (run sign stepped.state commands).replies in
    let none : is_change stepped.reply ≡ false = no-change revision (fold revised risen replies) (is_change stepped.reply) small (never-falls risen replies) same in
    let kept : risen ≡ revision = rw none refl in
    let later : fold revised revision replies ≡ revision = ap (λ n. fold revised n replies) (sym kept) ∙ same in
    let others = changes_the_time_at_most sign stepped.state commands revision small later in
    others ∙ ap (λ (s : StateData). fold later_alone s commands) (leaves-step sign state first none)
