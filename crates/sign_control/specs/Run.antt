-- What a list of commands makes of a state.
use Rattle.std.specs.Prelude.{◌≡◌, ◌≤◌, ℕ, ◌+◌, ◌-◌, List, [], ◌∷◌, take, length, Option, Some, None}
use Rattle.sign_font.specs.Sign.{SignData}
use Rattle.multi_layout.specs.Limits.{check_limit}
use Rattle.message_store.specs.declared.limits.StoreLimits.{StoreLimits}
use Rattle.message_store.specs.Limits.{IsKept}
use Rattle.message_store.specs.Slot.{StoreData, used_bytes, used_slots}
use Rattle.sign_control.specs.declared.command.Command.{Command}
use Rattle.sign_control.specs.declared.command.Reply.{Reply}
use Rattle.sign_control.specs.Counts.{JudgedText, text_judged, text_steps}
use Rattle.sign_control.specs.State.{StateData}
use Rattle.sign_control.specs.Step.{step}

-- the state after commands, and their replies in order (own)
pub record Run : Type 0 where
  pub state : StateData
  pub replies : List Reply

-- what commands make of a state, one after the other (own)
abbrev pub run : SignData → StateData → List Command → Run
run sign state [] = record { state = state; replies = [] }
run sign state (command ∷ commands) =
    let first = step sign state command in
    let others = run sign first.state commands in
    record { state = others.state; replies = first.reply ∷ others.replies }

-- the most steps that a command adds: the check limit of the text that it judges (own)
abbrev pub text_limit : Option JudgedText → ℕ
text_limit None = 0
text_limit (Some judged) = check_limit (length judged.text)

-- the most steps that commands add: the check limits of the texts that they judge (own)
abbrev pub run_limit : SignData → StateData → List Command → ℕ
run_limit sign state [] = 0
run_limit sign state (command ∷ commands) =
    text_limit (text_judged sign state command) + run_limit sign (step sign state command).state commands

-- the steps that commands add: those of judging the texts that they judge (own)
abbrev pub run_steps : SignData → StateData → List Command → ℕ
run_steps sign state [] = 0
run_steps sign state (command ∷ commands) =
    text_steps (text_judged sign state command) + run_steps sign (step sign state command).state commands

-- the octets that texts and owners may still take (NTCIP 1203 v03, dmsFreeChangeableMemory)
abbrev pub free_bytes : StoreData → ℕ
free_bytes store = store.limits.bytes - used_bytes store

-- a store is within its budget: the used bytes, the used slots, and used and free bytes together are the budget (own)
pub record IsWithin (limits : StoreLimits) (store : StoreData) : Type 0 where
  pub limits_kept : store.limits ≡ limits
  pub bytes : used_bytes store ≤ limits.bytes
  pub slots : used_slots store ≤ limits.slots
  pub budget : used_bytes store + free_bytes store ≡ limits.bytes

-- after each of these commands the store is within its budget (own)
abbrev pub StaysWithin : SignData → StateData → List Command → Type 0
StaysWithin sign state commands = (n : ℕ) → IsWithin state.store.limits (run sign state (take n commands)).state.store

-- a law: a store within its budget is within it after every command of every list of them (own)
abbrev pub EveryRunStaysWithin : Type 0
EveryRunStaysWithin = (sign : SignData) (state : StateData) (commands : List Command) → IsKept state.store → StaysWithin sign state commands
