-- What the display shows until its next change.
use Rattle.std.proofs.Common.{◌≡◌, ℕ, ◌+◌, ◌-◌, ◌<◌, ◌≤◌, ◌^◌, Option, Some, None, refl, sym, ap, ◌∙◌, arith, subst, inl, inr}
use Rattle.std.proofs.lemmas.Bool.{cases_lt, lt-leb}
use Rattle.sign_font.specs.Sign.{SignData}
use Rattle.multi_meaning.specs.Meaning.{meanings}
use Rattle.multi_meaning.specs.Picture.{pixel_at}
use Rattle.multi_meaning.specs.Times.{shown}
use Rattle.multi_layout.specs.Change.{IsBefore, IsSamePage, Stays, change_at}
use Rattle.sign_control.specs.declared.command.Reply.TheVariants as reply
use Rattle.sign_control.specs.Change.{IsAsNow, StaysUntilNextChange, no_later}
use Rattle.sign_control.specs.Headline.{pixel_now, shown_by, shown_now}
use Rattle.sign_control.specs.State.{StateData, Stepped}
use Rattle.sign_control.specs.Time.{later, passed, tick_step, ticked}

-- what comes before the sooner of two times comes before both
before_left : (most tenths : ℕ) (left : Option ℕ) → tenths < no_later most left → IsBefore tenths left × (tenths < most)
before_left most tenths None before = (tt, before)
before_left most tenths (Some left) before = (omega (arith, before), omega (arith, before))

-- before its end a duration goes on
goes_on : (sign : SignData) (state : StateData) (tenths : ℕ) (left : Option ℕ) → IsBefore tenths left
    → ticked sign state tenths left ≡ record { state = record state { display = passed state.display tenths }; reply = reply.Ticked }
goes_on sign state tenths None before = refl
goes_on sign state tenths (Some left) before = rw (lt-leb left tenths before) refl

-- a clock that some tenths were added to, up to the largest number of 64 bits, has risen by no more than these
rises : (clock tenths : ℕ) → clock < 2 ^ 64 → (risen : ℕ) × (risen ≤ tenths) × (later clock tenths ≡ clock + risen)
rises clock tenths small = elim (cases_lt (clock + tenths) (2 ^ 64)) [
  | inl within ↦ (tenths, omega arith, omega (arith, within))
  | inr past ↦ (2 ^ 64 - 1 - clock, omega (arith, past), omega (arith, past, small))
]

sooner_yet : (risen tenths : ℕ) (left : Option ℕ) → risen ≤ tenths → IsBefore tenths left → IsBefore risen left
sooner_yet risen tenths None few before = tt
sooner_yet risen tenths (Some left) few before = omega (arith, few, before)

as_now : (sign : SignData) (state : StateData) (tenths : ℕ) → tick_step sign state tenths ≡ record { state = record state { display = passed state.display tenths }; reply = reply.Ticked }
    → Stays → state.display.clock < 2 ^ 64 → IsBefore tenths (change_at (shown_by sign state) (meanings state.text) state.display.clock)
    → IsAsNow sign state tenths
as_now sign state tenths step stays small before =
    let (risen, few, clock) = rises state.display.clock tenths small in
    let by = shown_by sign state in
    let kept = stays by state.text state.display.clock risen (sooner_yet risen tenths _ few before) in
    let now = shown by state.text state.display.clock in
    let Same : Stepped → Type 0 = λ s. IsSamePage now (shown_now sign s.state) in
    let Keeps : Stepped → Type 0 = λ s. (colour column row : ℕ) → pixel_now sign s.state colour column row ≡ pixel_now sign state colour column row in
    record {
      goes_on = ap (λ (s : Stepped). s.reply) step;
      page = subst Same (sym step) (subst (λ t. IsSamePage now (shown by state.text t)) (sym clock) kept.0);
      pixels = subst Keeps (sym step) (λ colour column row. ap (λ t. pixel_at by (meanings state.text) (shown by state.text t) colour column row) clock ∙ kept.1 colour column row);
    }

pub until_next_change : Stays → StaysUntilNextChange
until_next_change stays sign state most tenths small before =
    let first = before_left (no_later most state.display.remaining) tenths (change_at (shown_by sign state) (meanings state.text) state.display.clock) before in
    let second = before_left most tenths state.display.remaining first.1 in
    as_now sign state tenths (goes_on sign state tenths state.display.remaining second.0) stays small first.0
