-- What holds after every list of commands.
use Rattle.std.proofs.Common.{◌≡◌, ◌≤◌, ℕ, ◌*◌, Bool, true, false, not, ◌&&◌, ◌==◌, nat_lt, nat_le, if◌then◌else◌, List, [], ◌∷◌, length, take, Option, Some, None, Result, Ok, Err, refl, subst, inl, inr, lit≤, arith}
use Rattle.std.proofs.Math.Seq.{take-length}
use Rattle.sign_font.specs.declared.fault.DefaultFault.{DefaultFault}
use Rattle.sign_font.specs.declared.parts.Defaults.{Defaults}
use Rattle.sign_font.proofs.DefaultLemmas.{sound_under}
use Rattle.sign_font.specs.Defaults.{default_fault, under}
use Rattle.sign_font.specs.Sign.{SignData}
use Rattle.multi_layout.specs.Limits.{check_limit}
use Rattle.message_store.specs.declared.fault.StoreFault.{StoreFault}
use Rattle.message_store.specs.declared.message.MsgRef.{MsgRef}
use Rattle.message_store.specs.Row.{RowData, row_at}
use Rattle.message_store.specs.Slot.{SlotData, StoreData, slot_at}
use Rattle.message_store.specs.Step.{beacon_set, cleared, multi_set, owner_set, pixel_service_set, priority_set, requested}
use Rattle.message_store.specs.Work.{JudgedData, waiting, worked}
use Rattle.sign_control.specs.declared.code.ActivateError.{ActivateError}
use Rattle.sign_control.specs.declared.code.ActivateError.TheVariants as error
use Rattle.sign_control.specs.declared.code.ActivationCode.{ActivationCode}
use Rattle.sign_control.specs.declared.code.IdCode.{IdCode}
use Rattle.sign_control.specs.declared.command.Command.{Command}
use Rattle.sign_control.specs.declared.command.Command.TheVariants as command
use Rattle.sign_control.specs.declared.display.Display.{Display}
use Rattle.sign_control.specs.declared.display.Registers.{Registers}
use Rattle.message_store.specs.Judged.{is_accepted}
use Rattle.sign_control.specs.Activation.{CandidateData, blank_one, current, fitting, found, is_crc, named, of_row, or_blank, text_of, verdict_of}
use Rattle.sign_control.specs.Code.{activation_code, id_code}
use Rattle.sign_control.specs.Counts.{JudgedText, activated_text, candidate_text, end_text, slot_text, text_judged, text_steps, ticked_text, waiting_text}
use Rattle.sign_control.specs.Headline.{Headline, after, shown_by, shown_now}
use Rattle.sign_control.specs.Run.{IsWithin, run, run_steps, text_limit}
use Rattle.sign_control.specs.State.{StateData, Stepped, started}
use Rattle.sign_control.specs.internal.Ready.{IsAccepted}
use Rattle.sign_control.specs.internal.Answered.{IsOneOf}
use Rattle.sign_control.specs.Step.{activated, defaults_step, judged_activation, judged_step, step, store_step, with_default}
use Rattle.sign_control.specs.Time.{end_step, passed, ticked}
use Rattle.page_picture.proofs.ShownLemmas.{there_at}
use Rattle.sign_control.proofs.BudgetLemmas.{every_run_stays_within}
use Rattle.sign_control.proofs.CountLemmas.{count-le}
use Rattle.sign_control.proofs.FrameLemmas.{accepted-pages, one-colour}
use Rattle.message_store.proofs.ShortLemmas.{HasShort, HasShortIn, IsShortRow, row-short, short-beacon, short-cleared, short-multi, short-owner, short-pixel, short-priority, short-requested, short-worked, slot-short}
use Rattle.sign_control.proofs.StepLemmas.{accepted-is, accepted-or-blank, none-accepted, one-taken}

-- ---- the message that is named

-- a message that may be shown is judged by the defaults in force or those of the display, and its text isn't too long
pub record IsFit (defaults : Defaults) (display : Display) (message : CandidateData) : Type 0 where
  pub one : IsOneOf message.defaults defaults display.defaults
  pub short : (shown : List ℕ) → length shown ≤ 4096 → length (text_of shown message) ≤ 4096

abbrev pub IsFitIn : Defaults → Display → Result CandidateData ActivateError → Type 0
IsFitIn defaults display (Ok message) = IsFit defaults display message
IsFitIn defaults display (Err error) = Unit {0}

fit-row : (defaults : Defaults) (display : Display) (message : MsgRef) (row : Result RowData StoreFault) → IsShortRow row → IsFitIn defaults display (of_row defaults message row)
fit-row defaults display message (Ok row) short = record { one = inl refl; short = λ shown is. short }
fit-row defaults display message (Err fault) short = tt

fit-if : (defaults : Defaults) (display : Display) (test : Bool) (one other : Result CandidateData ActivateError) → IsFitIn defaults display one → IsFitIn defaults display other
    → IsFitIn defaults display (if test then one else other)
fit-if defaults display true one other a b = a
fit-if defaults display false one other a b = b

fit-fitting : (defaults : Defaults) (display : Display) (crc : ℕ) (message : Result CandidateData ActivateError) → IsFitIn defaults display message → IsFitIn defaults display (fitting crc message)
fit-fitting defaults display crc (Err error) fit = tt
fit-fitting defaults display crc (Ok message) fit =
    fit-if defaults display (message.status == 4) (if is_crc message crc then Ok message else Err error.MessageCrc) (Err error.MessageStatus)
    (fit-if defaults display (is_crc message crc) (Ok message) (Err error.MessageCrc) fit tt) tt

pub fit-named : (store : StoreData) (display : Display) (defaults : Defaults) (code : IdCode) → HasShort store → IsFitIn defaults display (named store display defaults code)
fit-named store display defaults code short =
    fit-fitting defaults display code.crc (found store display defaults code.message)
    (fit-if defaults display (code.message.memory == 5) (if code.message.number == 1 then Ok (current display) else Err error.MessageNumber) (of_row defaults code.message (row_at store code.message))
    (fit-if defaults display (code.message.number == 1) (Ok (current display)) (Err error.MessageNumber) (record { one = inr refl; short = λ shown is. is }) tt)
    (fit-row defaults display code.message (row_at store code.message) (row-short store code.message short)))

fit-blank : (defaults : Defaults) (display : Display) → IsFit defaults display (blank_one defaults)
fit-blank defaults display = record { one = inl refl; short = λ shown is. lit≤ tt }

fit-choice : (defaults : Defaults) (display : Display) (test : Bool) (one other : CandidateData) → IsFit defaults display one → IsFit defaults display other → IsFit defaults display (if test then one else other)
fit-choice defaults display true one other a b = a
fit-choice defaults display false one other a b = b

fit-or-blank : (sign : SignData) (shown : List ℕ) (defaults : Defaults) (display : Display) (message : Result CandidateData ActivateError) → IsFitIn defaults display message
    → IsFit defaults display (or_blank sign shown defaults message)
fit-or-blank sign shown defaults display (Err error) fit = fit-blank defaults display
fit-or-blank sign shown defaults display (Ok message) fit =
    fit-choice defaults display (is_accepted (verdict_of sign shown message)) message (blank_one defaults) fit (fit-blank defaults display)

-- ---- what is shown

-- the sign takes the defaults in force and those of the display, and accepts the display's text by these
pub record IsShowing (sign : SignData) (state : StateData) : Type 0 where
  pub taken : default_fault sign state.defaults ≡ None
  pub shown_taken : default_fault sign state.display.defaults ≡ None
  pub accepted : IsAccepted (under sign state.display.defaults) state.text
  pub short : length state.text ≤ 4096

stays : (sign : SignData) (old : StateData) (store : StoreData) (registers : Registers) (end : IdCode) → IsShowing sign old → IsShowing sign (record old { store = store; registers = registers; end = end })
stays sign old store registers end is = record { taken = is.taken; shown_taken = is.shown_taken; accepted = is.accepted; short = is.short }

showing-store : (sign : SignData) (state : StateData) (outcome : Result StoreData StoreFault) → IsShowing sign state → IsShowing sign (store_step state outcome).state
showing-store sign state (Ok store) is = stays sign state store state.registers state.end is
showing-store sign state (Err fault) is = is

showing-judged : (sign : SignData) (state : StateData) (store : StoreData) (judged : Option JudgedData) → IsShowing sign state → IsShowing sign (judged_step state store judged).state
showing-judged sign state store None is = stays sign state store state.registers state.end is
showing-judged sign state store (Some judged) is = stays sign state store _ state.end is

-- a choice of two steps
showing-if : (sign : SignData) (test : Bool) (one other : Stepped) → (test ≡ true → IsShowing sign one.state) → IsShowing sign other.state → IsShowing sign (if test then one else other).state
showing-if sign true one other a b = a refl
showing-if sign false one other a b = b

showing-activated : (sign : SignData) (state : StateData) (code : ActivationCode) (message : Result CandidateData ActivateError) → IsFitIn state.defaults state.display message → IsShowing sign state
    → IsShowing sign (activated sign state code message).state
showing-activated sign state code (Err error) fit is = stays sign state state.store _ state.end is
showing-activated sign state code (Ok message) fit is =
    showing-if sign (nat_lt code.priority state.display.priority) _ (judged_activation state code message (verdict_of sign state.text message))
    (λ low. stays sign state state.store _ state.end is)
    (showing-if sign (is_accepted (verdict_of sign state.text message)) _ _
    (λ judged. record {
      taken = is.taken;
      shown_taken = one-taken sign message.defaults state.defaults state.display.defaults fit.one is.taken is.shown_taken;
      accepted = accepted-is (verdict_of sign state.text message) judged;
      short = fit.short state.text is.short;
    })
    (stays sign state state.store _ state.end is))

showing-passed : (sign : SignData) (state : StateData) (tenths : ℕ) → IsShowing sign state → IsShowing sign (record state { display = passed state.display tenths })
showing-passed sign state tenths is = record { taken = is.taken; shown_taken = is.shown_taken; accepted = is.accepted; short = is.short }

showing-end : (sign : SignData) (state : StateData) (ago : ℕ) → HasShort state.store → IsShowing sign state → IsShowing sign (end_step sign state ago).state
showing-end sign state ago short is =
    let message = named state.store state.display state.defaults state.end in
    let fit = fit-or-blank sign state.text state.defaults state.display message (fit-named state.store state.display state.defaults state.end short) in
    record {
      taken = is.taken;
      shown_taken = one-taken sign (or_blank sign state.text state.defaults message).defaults state.defaults state.display.defaults fit.one is.taken is.shown_taken;
      accepted = accepted-or-blank sign state.text state.defaults message;
      short = fit.short state.text is.short;
    }

showing-ticked : (sign : SignData) (state : StateData) (tenths : ℕ) (left : Option ℕ) → HasShort state.store → IsShowing sign state → IsShowing sign (ticked sign state tenths left).state
showing-ticked sign state tenths None short is = showing-passed sign state tenths is
showing-ticked sign state tenths (Some left) short is =
    showing-if sign (nat_le left tenths) _ _ (λ over. showing-end sign state _ short is) (showing-passed sign state tenths is)

showing-defaults : (sign : SignData) (state : StateData) (defaults : Defaults) (fault : Option DefaultFault) → default_fault sign defaults ≡ fault → IsShowing sign state
    → IsShowing sign (defaults_step state defaults fault).state
showing-defaults sign state defaults None taken is = record { taken = taken; shown_taken = is.shown_taken; accepted = is.accepted; short = is.short }
showing-defaults sign state defaults (Some fault) taken is = is

showing-step : (sign : SignData) (state : StateData) (c : Command) → HasShort state.store → IsShowing sign state → IsShowing sign (step sign state c).state
showing-step sign state (command.Request message code) short is = showing-store sign state (requested state.store message code) is
showing-step sign state (command.SetMulti message text) short is = showing-store sign state (multi_set state.store message text.now) is
showing-step sign state (command.SetOwner message owner) short is = showing-store sign state (owner_set state.store message owner.now) is
showing-step sign state (command.SetPriority message priority) short is = showing-store sign state (priority_set state.store message priority) is
showing-step sign state (command.SetBeacon message beacon) short is = showing-store sign state (beacon_set state.store message beacon) is
showing-step sign state (command.SetPixelService message pixel) short is = showing-store sign state (pixel_service_set state.store message pixel) is
showing-step sign state command.Clear short is = showing-store sign state (Ok (cleared state.store)) is
showing-step sign state command.Work short is =
    let result = worked (under sign state.defaults) state.store in showing-judged sign state result.store result.judged is
showing-step sign state (command.Activate octets) short is =
    let code = activation_code octets in
    showing-activated sign state code (named state.store state.display state.defaults code.id) (fit-named state.store state.display state.defaults code.id short) is
showing-step sign state (command.SetEnd octets) short is = stays sign state state.store state.registers (id_code octets) is
showing-step sign state (command.Tick tenths) short is = showing-ticked sign state tenths state.display.remaining short is
showing-step sign state (command.SetDefault field value) short is =
    let defaults = with_default state.defaults field value in showing-defaults sign state defaults (default_fault sign defaults) refl is

-- ---- the store's texts

short-store : (state : StateData) (outcome : Result StoreData StoreFault) → HasShort state.store → HasShortIn outcome → HasShort (store_step state outcome).state.store
short-store state (Ok store) old new = new
short-store state (Err fault) old new = old

short-judged : (state : StateData) (store : StoreData) (judged : Option JudgedData) → HasShort store → HasShort (judged_step state store judged).state.store
short-judged state store None is = is
short-judged state store (Some judged) is = is

short-if : (test : Bool) (one other : Stepped) → HasShort one.state.store → HasShort other.state.store → HasShort (if test then one else other).state.store
short-if true one other a b = a
short-if false one other a b = b

short-activated : (sign : SignData) (state : StateData) (code : ActivationCode) (message : Result CandidateData ActivateError) → HasShort state.store → HasShort (activated sign state code message).state.store
short-activated sign state code (Err error) is = is
short-activated sign state code (Ok message) is = short-if _ _ _ is (short-if (is_accepted (verdict_of sign state.text message)) _ _ is is)

short-ticked : (sign : SignData) (state : StateData) (tenths : ℕ) (left : Option ℕ) → HasShort state.store → HasShort (ticked sign state tenths left).state.store
short-ticked sign state tenths None is = is
short-ticked sign state tenths (Some left) is = short-if _ _ _ is is

short-defaults : (state : StateData) (defaults : Defaults) (fault : Option DefaultFault) → HasShort state.store → HasShort (defaults_step state defaults fault).state.store
short-defaults state defaults None is = is
short-defaults state defaults (Some fault) is = is

short-step : (sign : SignData) (state : StateData) (c : Command) → HasShort state.store → HasShort (step sign state c).state.store
short-step sign state (command.Request message code) is = short-store state (requested state.store message code) is (short-requested state.store message code is)
short-step sign state (command.SetMulti message text) is = short-store state (multi_set state.store message text.now) is (short-multi state.store message text.now is)
short-step sign state (command.SetOwner message owner) is = short-store state (owner_set state.store message owner.now) is (short-owner state.store message owner.now is)
short-step sign state (command.SetPriority message priority) is = short-store state (priority_set state.store message priority) is (short-priority state.store message priority is)
short-step sign state (command.SetBeacon message beacon) is = short-store state (beacon_set state.store message beacon) is (short-beacon state.store message beacon is)
short-step sign state (command.SetPixelService message pixel) is = short-store state (pixel_service_set state.store message pixel) is (short-pixel state.store message pixel is)
short-step sign state command.Clear is = short-cleared state.store is
short-step sign state command.Work is =
    let result = worked (under sign state.defaults) state.store in
    short-judged state result.store result.judged (short-worked (under sign state.defaults) state.store (waiting state.store) is)
short-step sign state (command.Activate octets) is = short-activated sign state (activation_code octets) _ is
short-step sign state (command.SetEnd octets) is = is
short-step sign state (command.Tick tenths) is = short-ticked sign state tenths state.display.remaining is
short-step sign state (command.SetDefault field value) is =
    let defaults = with_default state.defaults field value in short-defaults state defaults (default_fault sign defaults) is

-- ---- the steps

-- a text that is judged isn't longer than 4,096 octets
abbrev pub IsShortText : Option JudgedText → Type 0
IsShortText None = Unit {0}
IsShortText (Some judged) = length judged.text ≤ 4096

text-if : (test : Bool) (one other : Option JudgedText) → IsShortText one → IsShortText other → IsShortText (if test then one else other)
text-if true one other a b = a
text-if false one other a b = b

slot-text : (sign : SignData) (slot : SlotData) → length slot.multi ≤ 4096 → IsShortText (slot_text sign slot)
slot-text sign slot short =
    text-if ((slot.beacon == 1) && not sign.beacons) None _ tt
    (text-if ((slot.pixel == 1) && not sign.pixel_service) None (Some (record { sign = sign; text = slot.multi })) tt short)

waiting-text : (sign : SignData) (store : StoreData) (index : Option ℕ) → HasShort store → IsShortText (waiting_text sign store index)
waiting-text sign store None is = tt
waiting-text sign store (Some index) is = slot-text sign (slot_at store index) (omega (arith, (slot-short store index is).multi, is.longest))

activated-text : (sign : SignData) (state : StateData) (code : ActivationCode) (message : Result CandidateData ActivateError) → IsFitIn state.defaults state.display message → length state.text ≤ 4096
    → IsShortText (activated_text sign state code message)
activated-text sign state code (Err error) fit short = tt
activated-text sign state code (Ok message) fit short = text-if (nat_lt code.priority state.display.priority) None (Some (candidate_text sign state.text message)) tt (fit.short state.text short)

end-text : (sign : SignData) (state : StateData) (message : Result CandidateData ActivateError) → IsFitIn state.defaults state.display message → length state.text ≤ 4096 → IsShortText (end_text sign state.text message)
end-text sign state (Err error) fit short = tt
end-text sign state (Ok message) fit short = fit.short state.text short

ticked-text : (sign : SignData) (state : StateData) (tenths : ℕ) (left : Option ℕ) → HasShort state.store → length state.text ≤ 4096 → IsShortText (ticked_text sign state tenths left)
ticked-text sign state tenths None is short = tt
ticked-text sign state tenths (Some left) is short =
    text-if (nat_le left tenths) (end_text sign state.text (named state.store state.display state.defaults state.end)) None
    (end-text sign state (named state.store state.display state.defaults state.end) (fit-named state.store state.display state.defaults state.end is) short) tt

judged-text : (sign : SignData) (state : StateData) (c : Command) → HasShort state.store → length state.text ≤ 4096 → IsShortText (text_judged sign state c)
judged-text sign state (command.Request message code) is short = tt
judged-text sign state (command.SetMulti message text) is short = tt
judged-text sign state (command.SetOwner message owner) is short = tt
judged-text sign state (command.SetPriority message priority) is short = tt
judged-text sign state (command.SetBeacon message beacon) is short = tt
judged-text sign state (command.SetPixelService message pixel) is short = tt
judged-text sign state command.Clear is short = tt
judged-text sign state command.Work is short = waiting-text (under sign state.defaults) state.store (waiting state.store) is
judged-text sign state (command.Activate octets) is short =
    let code = activation_code octets in
    activated-text sign state code (named state.store state.display state.defaults code.id) (fit-named state.store state.display state.defaults code.id is) short
judged-text sign state (command.SetEnd octets) is short = tt
judged-text sign state (command.Tick tenths) is short = ticked-text sign state tenths state.display.remaining is short
judged-text sign state (command.SetDefault field value) is short = tt

limit-le : (judged : Option JudgedText) → IsShortText judged → text_limit judged ≤ check_limit 4096
limit-le None short = lit≤ tt
limit-le (Some judged) short = omega (arith, short)

-- ---- the run

pub record IsSteady (sign : SignData) (state : StateData) : Type 0 where
  pub store : HasShort state.store
  pub showing : IsShowing sign state

steady-step : (sign : SignData) (state : StateData) (c : Command) → IsSteady sign state → IsSteady sign (step sign state c).state
steady-step sign state c is = record { store = short-step sign state c is.store; showing = showing-step sign state c is.store is.showing }

pub steady-run : (sign : SignData) (state : StateData) (commands : List Command) → IsSteady sign state → IsSteady sign (run sign state commands).state
steady-run sign state [] is = is
steady-run sign state (first ∷ commands) is = steady-run sign (step sign state first).state commands (steady-step sign state first is)

-- a command adds at most the check limit of 4,096 octets
next-steps : (sign : SignData) (state : StateData) (c : Command) → IsSteady sign state → text_steps (text_judged sign state c) ≤ check_limit 4096
next-steps sign state c is =
    let judged = text_judged sign state c in
    omega (arith, count-le judged, limit-le judged (judged-text sign state c is.store is.showing.short))

-- so commands add at most that for each
pub steps-run : (sign : SignData) (state : StateData) (commands : List Command) → IsSteady sign state → run_steps sign state commands ≤ check_limit 4096 * length commands
steps-run sign state [] is = lit≤ tt
steps-run sign state (first ∷ commands) is =
    omega (arith, next-steps sign state first is, steps-run sign (step sign state first).state commands (steady-step sign state first is))

pub headline : Headline
headline sign store commands sound taken kept =
    let first = started sign.defaults store in
    let accepted-first = none-accepted (under sign sign.defaults) in
    let steady : IsSteady sign first = record {
      store = record { longest = kept.sound.longest.1; slots = kept.short; permanent = kept.permanent.each };
      showing = record { taken = taken; shown_taken = taken; accepted = accepted-first; short = lit≤ tt };
    } in
    let last = after sign store commands in
    let is = steady-run sign first commands steady in
    let all : take (length commands) commands ≡ commands = take-length commands in
    record {
      within = subst (λ (l : List Command). IsWithin store.limits (run sign first l).state.store) all (every_run_stays_within sign first commands kept (length commands));
      next = λ c. next-steps sign last c is;
      steps = steps-run sign first commands steady;
      short = is.showing.short;
      accepted = accepted-pages (shown_by sign last) last.text is.showing.accepted;
      there = there_at (shown_by sign last) last.text last.display.clock (shown_now sign last) refl;
      coloured = λ column row. one-colour (shown_by sign last) last.text (shown_now sign last) column row (sound_under sign last.display.defaults sound is.showing.shown_taken);
    }
