-- What holds of a controller stays so, and what the calls of its parts say of a step.
use Rattle.std.proofs.Common.{◌≡◌, ◌≤◌, ◌*◌, ◌-◌, ◌∙◌, ℕ, Bool, true, false, not, nat_lt, if◌then◌else◌, List, [], length, refl, sym, ap, subst, inl, inr, arith, Option, Some, None, Result, Ok, Err, IfSome, Bor}
use Rattle.std.specs.Option.{option_copied, option_map, unwrap_or}
use Rattle.std.proofs.lemmas.Bool.{cond-true, cond-false, le-ltb}
use Rattle.sign_font.specs.declared.parts.Defaults.{Defaults}
use Rattle.sign_font.specs.Defaults.{default_fault, under}
use Rattle.sign_font.specs.Sign.{SignData}
use Rattle.sign_font.specs.Sound.{IsSound}
use Rattle.page_plane.specs.Plane.{BitPlane}
use Rattle.multi_token.specs.Reading.{reading, read_items}
use Rattle.multi_meaning.specs.Verdict.{Verdict, Accepted, Refused, verdict, verdict_on}
use Rattle.multi_layout.specs.Pages.{IsSized}
use Rattle.message_store.specs.declared.fault.StoreFault.{StoreFault}
use Rattle.message_store.specs.declared.limits.StoreLimits.{StoreLimits}
use Rattle.message_store.specs.Ranged.{AreRanged}
use Rattle.message_store.specs.Slot.{StoreData}
use Rattle.message_store.specs.Step.{StepsTo}
use Rattle.sign_control.specs.declared.code.ActivateError.{ActivateError}
use Rattle.sign_control.specs.declared.code.ActivateError.TheVariants as error
use Rattle.sign_control.specs.declared.code.ActivationCode.{ActivationCode}
use Rattle.sign_control.specs.declared.code.SourceMode.TheVariants as mode
use Rattle.sign_control.specs.declared.display.Registers.{Registers}
use Rattle.sign_control.specs.declared.command.Reply.TheVariants as reply
use Rattle.sign_control.specs.declared.display.Display.{Display}
use Rattle.sign_control.specs.declared.display.Showing.{Showing}
use Rattle.message_store.specs.Judged.{error_of, is_accepted, position_of}
use Rattle.sign_control.specs.Activation.{CandidateData, blank_one, displayed, or_blank, remaining_of, text_of, verdict_of}
use Rattle.sign_control.specs.State.{StateData, Stepped, start}
use Rattle.sign_control.specs.internal.Ready.{IsAccepted, IsReady}
use Rattle.sign_control.specs.internal.Answered.{IsOneOf, reply_of}
use Rattle.sign_control.specs.Step.{activated, activated_registers, judged_activation, not_shown, store_step}
use Rattle.sign_control.specs.Time.{passed}

-- ---- verdicts

-- the empty text is accepted by every sign
pub none-accepted : (sign : SignData) → IsAccepted sign []
unfolding verdict verdict_on reading read_items
none-accepted sign = (1, refl)

-- a string that is accepted has pages
pub accepted-is : (v : Verdict) → is_accepted v ≡ true → (pages : ℕ) × (v ≡ Accepted pages)
accepted-is (Accepted pages) is = (pages, refl)
accepted-is (Refused code at) is = absurd cc

accepted-if : (sign : SignData) (shown : List ℕ) (defaults : Defaults) (message : CandidateData) (test : Bool) → test ≡ is_accepted (verdict_of sign shown message)
    → let after : CandidateData = if test then message else blank_one defaults in IsAccepted (under sign after.defaults) (text_of shown after)
accepted-if sign shown defaults message true is = accepted-is (verdict_of sign shown message) (sym is)
accepted-if sign shown defaults message false is = none-accepted (under sign defaults)

-- what follows a duration is accepted
pub accepted-or-blank : (sign : SignData) (shown : List ℕ) (defaults : Defaults) (message : Result CandidateData ActivateError)
    → let after : CandidateData = or_blank sign shown defaults message in IsAccepted (under sign after.defaults) (text_of shown after)
accepted-or-blank sign shown defaults (Err error) = none-accepted (under sign defaults)
accepted-or-blank sign shown defaults (Ok message) = accepted-if sign shown defaults message (is_accepted (verdict_of sign shown message)) refl

-- what is then shown is accepted
pub shown-accepted : (sign : SignData) (shown : List ℕ) (m : CandidateData) (display : Display) (showing : Showing) (items : List ℕ)
    → IsAccepted (under sign m.defaults) (text_of shown m) → display ≡ displayed m showing → items ≡ text_of shown m → IsAccepted (under sign display.defaults) items
shown-accepted sign shown m display showing items accepted display-is text-is =
    (accepted.0, ap (λ (l : List ℕ). verdict (under sign display.defaults) l) text-is ∙ ap (λ (d : Display). verdict (under sign d.defaults) (text_of shown m)) display-is ∙ accepted.1)

-- what follows a duration is accepted
pub end-accepted : (sign : SignData) (shown : List ℕ) (defaults : Defaults) (message : Result CandidateData ActivateError) (m : CandidateData) → m ≡ or_blank sign shown defaults message
    → IsAccepted (under sign m.defaults) (text_of shown m)
end-accepted sign shown defaults message m is =
    subst (λ (c : CandidateData). IsAccepted (under sign c.defaults) (text_of shown c)) (sym is) (accepted-or-blank sign shown defaults message)

-- a message that was judged is accepted
pub judged-accepted : (sign : SignData) (shown text : List ℕ) (m : CandidateData) (accepted : Bool) → text ≡ text_of shown m → accepted ≡ is_accepted (verdict (under sign m.defaults) text)
    → not accepted ≡ false → IsAccepted (under sign m.defaults) (text_of shown m)
judged-accepted sign shown text m true text-is judged was =
    accepted-is (verdict_of sign shown m) (ap (λ (l : List ℕ). is_accepted (verdict (under sign m.defaults) l)) (sym text-is) ∙ sym judged)
judged-accepted sign shown text m false text-is judged was = absurd cc

-- ---- what holds of every controller

-- blank 1 has no end
pub start-limited : (defaults : Defaults) (display : Display) → display ≡ start defaults → IfSome display.remaining (λ remaining. remaining ≤ 65534 * 600)
start-limited defaults display is = subst (λ (d : Display). IfSome d.remaining (λ remaining. remaining ≤ 65534 * 600)) (sym is) tt

-- what is shown for this long
pub shown-limited : (m : CandidateData) (display : Display) (showing : Showing) → display ≡ displayed m showing → IfSome showing.remaining (λ remaining. remaining ≤ 65534 * 600)
    → IfSome display.remaining (λ remaining. remaining ≤ 65534 * 600)
shown-limited m display showing is limited = subst (λ (d : Display). IfSome d.remaining (λ remaining. remaining ≤ 65534 * 600)) (sym is) limited

-- what is shown at the start is within its ranges
pub start-ranged : (defaults : Defaults) (display : Display) → display ≡ start defaults → AreRanged display.priority display.beacon display.pixel
start-ranged defaults display is =
    subst (λ (d : Display). AreRanged d.priority d.beacon d.pixel) (sym is) (record { from_one = omega arith; beacon_flag = omega arith; pixel_flag = omega arith })

-- what is shown is within its ranges
pub shown-ranged : (m : CandidateData) (display : Display) (showing : Showing) → display ≡ displayed m showing → AreRanged m.priority m.beacon m.pixel
    → AreRanged display.priority display.beacon display.pixel
shown-ranged m display showing is ranged = subst (λ (d : Display). AreRanged d.priority d.beacon d.pixel) (sym is) ranged

-- an empty text is shown
pub ready-none : (sign : SignData) (store : StoreData) (defaults : Defaults) (display : Display) (text : List ℕ) (capacity : ℕ) (plane : BitPlane)
    → IsSound sign → default_fault sign defaults ≡ None → default_fault sign display.defaults ≡ None → store.limits.max_string ≤ 4096 → text ≡ [] → store.limits.max_string ≤ capacity → IsSized plane sign
    → IfSome display.remaining (λ remaining. remaining ≤ 65534 * 600) → AreRanged display.priority display.beacon display.pixel
    → IsReady sign store defaults display text capacity plane
unfolding none-accepted
ready-none sign store defaults display text capacity plane sound taken shown longest none room size limited ranged = record {
  sound = sound;
  taken = taken;
  shown_taken = shown;
  longest = longest;
  room = room;
  size = size;
  limited = limited;
  ranged = ranged;
  accepted = (1, ap (λ (l : List ℕ). verdict (under sign display.defaults) l) none ∙ (none-accepted (under sign display.defaults)).1);
  short = omega (arith, ap (λ (l : List ℕ). length l) none);
  fits = omega (arith, ap (λ (l : List ℕ). length l) none);
}

-- the store's messages have changed
pub ready-store : (sign : SignData) (old new : StoreData) (defaults : Defaults) (display : Display) (text : List ℕ) (capacity : ℕ) (plane : BitPlane)
    → IsReady sign old defaults display text capacity plane → new.limits ≡ old.limits → IsReady sign new defaults display text capacity plane
ready-store sign old new defaults display text capacity plane is same =
    let longest = ap (λ (l : StoreLimits). l.max_string) same in
    record {
      sound = is.sound;
      taken = is.taken;
      shown_taken = is.shown_taken;
      accepted = is.accepted;
      short = is.short;
      size = is.size;
      limited = is.limited;
      ranged = is.ranged;
      fits = omega (arith, is.fits, longest);
      longest = omega (arith, is.longest, longest);
      room = omega (arith, is.room, longest);
    }

limited-passed : (left : Option ℕ) (tenths : ℕ) → IfSome left (λ remaining. remaining ≤ 65534 * 600) → IfSome (option_map (λ l. l - tenths) left) (λ remaining. remaining ≤ 65534 * 600)
limited-passed None tenths is = is
limited-passed (Some left) tenths is = omega (arith, is)

-- time has passed
pub ready-passed : (sign : SignData) (store : StoreData) (defaults : Defaults) (old new : Display) (text : List ℕ) (capacity : ℕ) (plane : BitPlane) (tenths : ℕ)
    → IsReady sign store defaults old text capacity plane → new ≡ passed old tenths → IsReady sign store defaults new text capacity plane
ready-passed sign store defaults old new text capacity plane tenths is same =
    let after : IsReady sign store defaults (passed old tenths) text capacity plane = record {
      sound = is.sound;
      taken = is.taken;
      shown_taken = is.shown_taken;
      accepted = is.accepted;
      short = is.short;
      fits = is.fits;
      longest = is.longest;
      room = is.room;
      size = is.size;
      ranged = is.ranged;
      limited = limited-passed old.remaining tenths is.limited;
    } in
    subst (λ (d : Display). IsReady sign store defaults d text capacity plane) (sym same) after

-- a message is shown
pub ready-shown : (sign : SignData) (store : StoreData) (defaults : Defaults) (old new : Display) (text after : List ℕ) (capacity room : ℕ) (plane : BitPlane)
    → IsReady sign store defaults old text capacity plane → default_fault sign new.defaults ≡ None → IsAccepted (under sign new.defaults) after → length after ≤ 4096
    → length after ≤ store.limits.max_string → capacity ≤ room → IfSome new.remaining (λ remaining. remaining ≤ 65534 * 600) → AreRanged new.priority new.beacon new.pixel
    → IsReady sign store defaults new after room plane
ready-shown sign store defaults old new text after capacity room plane is taken accepted short fits more limited ranged =
    record { sound = is.sound; taken = is.taken; shown_taken = taken; accepted = accepted; short = short; fits = fits; longest = is.longest; room = omega (arith, is.room, more); size = is.size; limited = limited; ranged = ranged }

-- the text that is shown after it was replaced, or not
pub fits-replaced : (text : Option (Bor (List ℕ))) (old new : List ℕ) (most : ℕ) → IfSome text (λ t. length t.now ≤ most) → length old ≤ most
    → new ≡ unwrap_or (option_copied text) old → length new ≤ most
fits-replaced None old new most own was is = omega (arith, ap (λ (l : List ℕ). length l) is, was)
fits-replaced (Some t) old new most own was is = omega (arith, ap (λ (l : List ℕ). length l) is, own)

-- defaults that are one of two that the sign takes
pub one-taken : (sign : SignData) (defaults one other : Defaults) → IsOneOf defaults one other → default_fault sign one ≡ None → default_fault sign other ≡ None → default_fault sign defaults ≡ None
one-taken sign defaults one other (inl is) a b = ap (λ (d : Defaults). default_fault sign d) is ∙ a
one-taken sign defaults one other (inr is) a b = ap (λ (d : Defaults). default_fault sign d) is ∙ b

-- ---- activation

pub not-false : (test : Bool) → not test ≡ false → test ≡ true
not-false true e = refl
not-false false e = absurd cc

pub not-true : (test : Bool) → not test ≡ true → test ≡ false
not-true true e = absurd cc
not-true false e = refl

-- the registers after a text was judged
same-registers : (registers after : Registers) (v w : Verdict) (accepted : Bool) (multi position : ℕ) → v ≡ w
    → accepted ≡ is_accepted v → multi ≡ error_of v → position ≡ position_of v → after ≡ activated_registers registers accepted multi position
    → after ≡ activated_registers registers (is_accepted w) (error_of w) (position_of w)
same-registers registers after v w accepted multi position same accepted-is error-is position-is is =
    is ∙ ap (λ (b : Bool). activated_registers registers b multi position) (accepted-is ∙ ap is_accepted same)
    ∙ ap (λ (n : ℕ). activated_registers registers (is_accepted w) n position) (error-is ∙ ap error_of same)
    ∙ ap (λ (n : ℕ). activated_registers registers (is_accepted w) (error_of w) n) (position-is ∙ ap position_of same)

-- the display of what an activation shows
abbrev pub for-code : ActivationCode → Showing
for-code code = record { clock = 0; remaining = remaining_of code.duration; requester = code.requester; mode = mode.Central }

-- a message that was judged and accepted is shown
pub activated-shown : (sign : SignData) (state : StateData) (code : ActivationCode) (found : Result CandidateData ActivateError) (message : CandidateData) (text items : List ℕ) (accepted : Bool) (multi position : ℕ)
    (registers : Registers) (display : Display) (showing : Showing)
    → Ok message ≡ found → state.display.priority ≤ code.priority → text ≡ text_of state.text message
    → accepted ≡ is_accepted (verdict (under sign message.defaults) text) → multi ≡ error_of (verdict (under sign message.defaults) text) → position ≡ position_of (verdict (under sign message.defaults) text)
    → registers ≡ activated_registers state.registers accepted multi position → accepted ≡ true
    → display ≡ displayed message showing → showing ≡ for-code code → items ≡ text_of state.text message
    → let after : Stepped = record { state = record state { display = display; text = items; registers = registers }; reply = reply.Shown } in after ≡ activated sign state code found
activated-shown sign state code found message text items accepted multi position registers display showing found-is low text-is accepted-is error-is position-is registers-is was display-is showing-is items-is =
    let v = verdict_of sign state.text message in
    let same : verdict (under sign message.defaults) text ≡ v = ap (λ (l : List ℕ). verdict (under sign message.defaults) l) text-is in
    let now : is_accepted v ≡ true = ap is_accepted (sym same) ∙ sym accepted-is ∙ was in
    let regs = same-registers state.registers registers (verdict (under sign message.defaults) text) v accepted multi position same accepted-is error-is position-is registers-is in
    let mk : Display → List ℕ → Registers → Stepped = λ d l r. record { state = record state { display = d; text = l; registers = r }; reply = reply.Shown } in
    let regs' = activated_registers state.registers (is_accepted v) (error_of v) (position_of v) in
    ap (λ (d : Display). mk d items registers) (display-is ∙ ap (λ (w : Showing). displayed message w) showing-is)
    ∙ ap (λ (l : List ℕ). mk (displayed message (for-code code)) l registers) items-is
    ∙ ap (λ (r : Registers). mk (displayed message (for-code code)) (text_of state.text message) r) regs
    ∙ sym (cond-true (is_accepted v) (mk (displayed message (for-code code)) (text_of state.text message) regs') (record { state = record state { registers = regs' }; reply = reply.NotShown 8 }) now)
    ∙ sym (cond-false (nat_lt code.priority state.display.priority) (not_shown state error.Priority) (judged_activation state code message v) (le-ltb code.priority state.display.priority low))
    ∙ ap (λ (f : Result CandidateData ActivateError). activated sign state code f) found-is

-- a message that was judged and not accepted isn't shown
pub activated-refused : (sign : SignData) (state : StateData) (code : ActivationCode) (found : Result CandidateData ActivateError) (message : CandidateData) (text : List ℕ) (accepted : Bool) (multi position number : ℕ) (registers : Registers)
    → Ok message ≡ found → state.display.priority ≤ code.priority → text ≡ text_of state.text message
    → accepted ≡ is_accepted (verdict (under sign message.defaults) text) → multi ≡ error_of (verdict (under sign message.defaults) text) → position ≡ position_of (verdict (under sign message.defaults) text)
    → registers ≡ activated_registers state.registers accepted multi position → accepted ≡ false → number ≡ 8
    → let after : Stepped = record { state = record state { registers = registers }; reply = reply.NotShown number } in after ≡ activated sign state code found
activated-refused sign state code found message text accepted multi position number registers found-is low text-is accepted-is error-is position-is registers-is was number-is =
    let v = verdict_of sign state.text message in
    let same : verdict (under sign message.defaults) text ≡ v = ap (λ (l : List ℕ). verdict (under sign message.defaults) l) text-is in
    let now : is_accepted v ≡ false = ap is_accepted (sym same) ∙ sym accepted-is ∙ was in
    let regs = same-registers state.registers registers (verdict (under sign message.defaults) text) v accepted multi position same accepted-is error-is position-is registers-is in
    let mk : ℕ → Registers → Stepped = λ n r. record { state = record state { registers = r }; reply = reply.NotShown n } in
    let regs' = activated_registers state.registers (is_accepted v) (error_of v) (position_of v) in
    let shown : Stepped = record { state = record state { display = displayed message (for-code code); text = text_of state.text message; registers = regs' }; reply = reply.Shown } in
    ap (λ (n : ℕ). mk n registers) number-is
    ∙ ap (λ (r : Registers). mk 8 r) regs
    ∙ sym (cond-false (is_accepted v) shown (mk 8 regs') now)
    ∙ sym (cond-false (nat_lt code.priority state.display.priority) (not_shown state error.Priority) (judged_activation state code message v) (le-ltb code.priority state.display.priority low))
    ∙ ap (λ (f : Result CandidateData ActivateError). activated sign state code f) found-is

-- ---- calls of the store

-- a call of the store, and what it answers
pub stored : (state : StateData) (outcome : Result StoreData StoreFault) (new : StoreData) (result : Result (Unit {0}) StoreFault) → StepsTo outcome state.store new result
    → ((record state { store = new }) ≡ (store_step state outcome).state) × (reply_of result ≡ (store_step state outcome).reply)
stored state (Ok store) new (Ok done) (ok, is) = (ap (λ (s : StoreData). record state { store = s }) is, refl)
stored state (Ok store) new (Err fault) (ok, is) = let no-way : false ≡ true = ok in absurd cc
stored state (Err fault) new result (is, kept) = (ap (λ (s : StoreData). record state { store = s }) kept, ap reply_of is)
