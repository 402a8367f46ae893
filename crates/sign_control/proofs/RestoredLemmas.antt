-- What restoring octets makes of a state, step by step.
use Rattle.std.proofs.Common.{◌≡◌, ◌≤◌, ◌*◌, ℕ, List, length, Some, None, IfSome, Result, Ok, Err, IsOk, refl, sym, ap, ◌∙◌, subst, arith}
use Rattle.sign_font.specs.declared.parts.Defaults.{Defaults}
use Rattle.sign_font.specs.Defaults.{default_fault, under}
use Rattle.sign_font.specs.Sign.{SignData}
use Rattle.page_plane.specs.Plane.{BitPlane}
use Rattle.message_store.specs.declared.limits.StoreLimits.{StoreLimits}
use Rattle.message_store.specs.Ranged.{AreRanged}
use Rattle.message_store.specs.Slot.{SlotData, StoreData}
use Rattle.saved_octets.specs.declared.fault.StateFault.{StateFault}
use Rattle.saved_octets.specs.Slots.{Replaces, table_in}
use Rattle.sign_control.specs.declared.display.Display.{Display}
use Rattle.sign_control.specs.State.{StateData}
use Rattle.sign_control.specs.Saved.{ReadData, Restores, read_in, restored, sign_fault}
use Rattle.sign_control.specs.Restored.{AnswersAlike, AnswersAsSaved}
use Rattle.sign_control.specs.RestoreSteps.{fault_steps, read_steps, restore_steps}
use Rattle.sign_control.specs.internal.Ready.{IsAccepted, IsReady}

-- a refusal changes nothing
pub refusal : (read : Result StateData StateFault) (old : StateData) (result : Result (Unit {0}) StateFault) (e : StateFault) → read ≡ Err e → result ≡ Err e → Restores read old old result
refusal read old result e is was = let P : Result StateData StateFault → Type 0 = λ r. Restores r old old result in subst P (sym is) (was, refl)

pub unread : (sign : SignData) (store : StoreData) (octets : List ℕ) (most : ℕ) (e : StateFault) → most ≡ store.limits.max_string → read_in most octets ≡ Err e → restored sign store octets ≡ Err e
unfolding restored
unread sign store octets most e same is =
    let read : read_in store.limits.max_string octets ≡ Err e = ap (λ n. read_in n octets) (sym same) ∙ is in
    rw read refl

pub untaken : (sign : SignData) (store : StoreData) (octets : List ℕ) (most : ℕ) (r : ReadData) (e : StateFault) → most ≡ store.limits.max_string → read_in most octets ≡ Ok r
    → sign_fault sign r.parts r.text ≡ Some e → restored sign store octets ≡ Err e
unfolding restored
untaken sign store octets most r e same is fault =
    let read : read_in store.limits.max_string octets ≡ Ok r = ap (λ n. read_in n octets) (sym same) ∙ is in
    rw (read, fault) refl

not_ok : (result : Result (Unit {0}) StateFault) (e : StateFault) → result ≡ Err e → IsOk result → ⊥
not_ok (Ok x) e was is = cc
not_ok (Err f) e was is = cc

-- the messages are refused, and the store stays as it is
pub record IsUnfilled (sign : SignData) (old new : StoreData) (octets : List ℕ) (e : StateFault) : Type 0 where
  pub refused : restored sign old octets ≡ Err e
  pub kept : new ≡ old

pub unfilled : (sign : SignData) (old new : StoreData) (octets : List ℕ) (most : ℕ) (r : ReadData) (result : Result (Unit {0}) StateFault) (e : StateFault) → most ≡ old.limits.max_string
    → read_in most octets ≡ Ok r → sign_fault sign r.parts r.text ≡ None → Replaces (table_in old.limits r.rest) old new result → result ≡ Err e → IsUnfilled sign old new octets e
unfolding restored
unfilled sign old new octets most r result e same is taken replaces was =
    let read : read_in old.limits.max_string octets ≡ Ok r = ap (λ n. read_in n octets) (sym same) ∙ is in
    by (table_in old.limits r.rest) refl replaces read
  where
    by : (t : Result (List SlotData) StateFault) → table_in old.limits r.rest ≡ t → Replaces t old new result → read_in old.limits.max_string octets ≡ Ok r → IsUnfilled sign old new octets e
    by (Ok slots) table given read = absurd (not_ok result e was given.0)
    by (Err f) table given read =
        let same-fault : (let x : Result (Unit {0}) StateFault = Err f in x) ≡ Err e = sym given.0 ∙ was in
        let f-is : f ≡ e = cc in
        record { refused = rw (read, taken, table) (ap (λ (x : StateFault). let y : Result StateData StateFault = Err x in y) f-is); kept = given.1 }

-- the messages are replaced, and the state is restored
pub record IsFilled (sign : SignData) (old new : StoreData) (octets : List ℕ) (r : ReadData) : Type 0 where
  pub limits : new.limits ≡ old.limits
  pub state : restored sign old octets ≡ Ok (record { store = new; defaults = r.parts.defaults; display = r.parts.display; text = r.text; registers = r.parts.registers; end = r.parts.end })

pub filled : (sign : SignData) (old new : StoreData) (octets : List ℕ) (most : ℕ) (r : ReadData) (result : Result (Unit {0}) StateFault) → most ≡ old.limits.max_string
    → read_in most octets ≡ Ok r → sign_fault sign r.parts r.text ≡ None → Replaces (table_in old.limits r.rest) old new result → IsOk result → IsFilled sign old new octets r
unfolding restored
filled sign old new octets most r result same is taken replaces was =
    let read : read_in old.limits.max_string octets ≡ Ok r = ap (λ n. read_in n octets) (sym same) ∙ is in
    by (table_in old.limits r.rest) refl replaces read
  where
    by : (t : Result (List SlotData) StateFault) → table_in old.limits r.rest ≡ t → Replaces t old new result → read_in old.limits.max_string octets ≡ Ok r → IsFilled sign old new octets r
    by (Err f) table given read = absurd (not_ok result f given.0 was)
    by (Ok slots) table given read =
        record {
          limits = ap (λ (st : StoreData). st.limits) given.1;
          state = rw (read, taken, table) (ap (λ (st : StoreData). let y : Result StateData StateFault = Ok (record { store = st; defaults = r.parts.defaults; display = r.parts.display; text = r.text; registers = r.parts.registers; end = r.parts.end }) in y) (sym given.1));
        }

-- the state is the one that octets give
pub restoration : (read : Result StateData StateFault) (old new : StateData) → read ≡ Ok new → Restores read old new (Ok tt)
restoration read old new is = let P : Result StateData StateFault → Type 0 = λ r. Restores r old new (Ok tt) in subst P (sym is) (refl, refl)

-- what holds of a controller whose state is restored
pub ready-restored : (sign : SignData) (old new : StoreData) (defaults after : Defaults) (display shown : Display) (text given : List ℕ) (capacity room : ℕ) (plane : BitPlane)
    → IsReady sign old defaults display text capacity plane → new.limits ≡ old.limits → default_fault sign after ≡ None → default_fault sign shown.defaults ≡ None
    → IsAccepted (under sign shown.defaults) given → length given ≤ old.limits.max_string → capacity ≤ room → IfSome shown.remaining (λ remaining. remaining ≤ 65534 * 600) → AreRanged shown.priority shown.beacon shown.pixel
    → IsReady sign new after shown given room plane
ready-restored sign old new defaults after display shown text given capacity room plane is same taken shown_taken accepted fits more limited ranged =
    let most = ap (λ (l : StoreLimits). l.max_string) same in
    record {
      sound = is.sound;
      taken = taken;
      shown_taken = shown_taken;
      accepted = accepted;
      short = omega (arith, fits, is.longest);
      fits = omega (arith, fits, most);
      longest = omega (arith, is.longest, most);
      room = omega (arith, is.room, most, more);
      size = is.size;
      limited = limited;
      ranged = ranged;
    }

-- ---- the steps

-- octets that can't be read take none
pub steps-unread : (sign : SignData) (store : StoreData) (octets : List ℕ) (most : ℕ) (e : StateFault) → most ≡ store.limits.max_string → read_in most octets ≡ Err e → restore_steps sign store octets ≡ 0
steps-unread sign store octets most e same is = ap (read_steps sign) (ap (λ n. read_in n octets) (sym same) ∙ is)

-- what is read takes those of judging its text
pub steps-read : (sign : SignData) (store : StoreData) (octets : List ℕ) (most : ℕ) (r : ReadData) (steps : ℕ) → most ≡ store.limits.max_string → read_in most octets ≡ Ok r
    → steps ≡ fault_steps sign r.parts r.text → restore_steps sign store octets ≡ steps
steps-read sign store octets most r steps same is counted = ap (read_steps sign) (ap (λ n. read_in n octets) (sym same) ∙ is) ∙ sym counted

-- ---- the answers

-- what is restored is the state that was saved, and so it answers alike
pub answers_as_saved : AnswersAsSaved
answers_as_saved sign state other store back limits permanent is =
    let both : (let r : Result StateData StateFault = Ok state in r) ≡ Ok other = sym (back store limits permanent) ∙ is in
    let same : state ≡ other = cc in
    let P : StateData → Type 0 = AnswersAlike sign state in
    let alike : AnswersAlike sign state state = record {
      replies = λ commands. refl;
      shown = λ commands. refl;
      pixels = λ commands colour column row. refl;
    } in
    subst P same alike
