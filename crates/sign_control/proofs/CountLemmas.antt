-- The steps that commands add.
use Rattle.std.proofs.Common.{◌≡◌, ◌≤◌, ◌<◌, ◌+◌, ◌-◌, ◌^◌, ◌∙◌, ℕ, Bool, true, false, not, nat_lt, ◌&&◌, ◌==◌, if◌then◌else◌, List, [], ◌∷◌, ◌++◌, length, take, slice_index_or, refl, sym, ap, arith, Option, Some, None, Result, Ok, lit≤}
use Rattle.std.proofs.lemmas.List.{take_more}
use Rattle.std.proofs.lemmas.Bool.{cond-false, le-ltb}
use Rattle.step_count.specs.Count.{raised}
use Rattle.step_count.proofs.CountLemmas.{raised-zero}
use Rattle.sign_font.specs.Defaults.{under}
use Rattle.sign_font.specs.Sign.{SignData}
use Rattle.multi_meaning.specs.Steps.{judging_steps}
use Rattle.multi_meaning.proofs.StepsLemmas.{judging_is_linear}
use Rattle.multi_layout.specs.Limits.{check_limit}
use Rattle.message_store.specs.Slot.{StoreData, slot_at}
use Rattle.message_store.specs.Work.{JudgedData, judgement, slot_steps, told, worked_at}
use Rattle.sign_control.specs.declared.code.ActivateError.{ActivateError}
use Rattle.sign_control.specs.declared.code.ActivationCode.{ActivationCode}
use Rattle.sign_control.specs.declared.command.Command.{Command}
use Rattle.sign_control.specs.declared.command.Reply.{Reply}
use Rattle.sign_control.specs.Activation.{CandidateData, text_of}
use Rattle.sign_control.specs.Counts.{JudgedText, activated_text, candidate_text, text_judged, text_steps, waiting_text}
use Rattle.sign_control.specs.Run.{run, run_limit, run_steps, text_limit}
use Rattle.sign_control.specs.State.{StateData}
use Rattle.sign_control.specs.TextPage.{tried_steps}
use Rattle.sign_control.specs.Step.{step}

-- an activation whose text was judged
pub activated-count : (sign : SignData) (state : StateData) (code : ActivationCode) (message : CandidateData) (found : Result CandidateData ActivateError) (text : List ℕ) (steps old new : ℕ)
    → Ok message ≡ found → state.display.priority ≤ code.priority → text ≡ text_of state.text message
    → steps ≡ judging_steps (under sign message.defaults) text → new ≡ raised old steps
    → new ≡ raised old (text_steps (activated_text sign state code found))
activated-count sign state code message found text steps old new is low text-is judged raised-is =
    raised-is ∙ ap (raised old) (
    judged
    ∙ ap (judging_steps (under sign message.defaults)) text-is
    ∙ ap text_steps (sym (cond-false (nat_lt code.priority state.display.priority) None (Some (candidate_text sign state.text message)) (le-ltb code.priority state.display.priority low)))
    ∙ ap (λ f. text_steps (activated_text sign state code f)) is
    )

-- ---- work

steps-if : (one other : Bool) (judged : JudgedText) → (if one then 0 else (if other then 0 else judging_steps judged.sign judged.text)) ≡ text_steps (if one then None else (if other then None else Some judged))
steps-if true other judged = refl
steps-if false true judged = refl
steps-if false false judged = refl

-- the message that waited was judged
pub worked-count : (sign : SignData) (store : StoreData) (index : Option ℕ) (judged : JudgedData) (steps old new : ℕ) → Some judged ≡ (worked_at sign store index).judged
    → steps ≡ slot_steps sign (slot_at store (judged.number - 1)) → new ≡ raised old steps
    → new ≡ raised old (text_steps (waiting_text sign store index))
worked-count sign store None judged steps old new is counted raised-is = absurd cc
worked-count sign store (Some index) judged steps old new is counted raised-is =
    let slot = slot_at store index in
    let same : judged ≡ told (index + 1) (judgement sign slot) = cc in
    let place : judged.number - 1 ≡ index = omega (arith, ap (λ (j : JudgedData). j.number) same) in
    raised-is ∙ ap (raised old) (
    counted
    ∙ ap (λ i. slot_steps sign (slot_at store i)) place
    ∙ steps-if ((slot.beacon == 1) && not sign.beacons) ((slot.pixel == 1) && not sign.pixel_service) (record { sign = sign; text = slot.multi })
    )

-- no message waited
pub idle-count : (sign : SignData) (store : StoreData) (index : Option ℕ) (old new : ℕ) → None ≡ (worked_at sign store index).judged → new ≡ old → new ≡ raised old (text_steps (waiting_text sign store index))
idle-count sign store None old new is same = same ∙ sym (raised-zero old)
idle-count sign store (Some index) old new is same = absurd cc

-- ---- runs

-- judging a text takes at most its check limit
pub judging_few : (sign : SignData) (text : List ℕ) → judging_steps sign text ≤ check_limit (length text)
judging_few sign text = (judging_is_linear sign text).most

-- so does judging one that may be too long for it
pub tried_few : (sign : SignData) (text : List ℕ) → tried_steps sign text ≤ check_limit (length text)
tried_few sign text = by (nat_lt (length text) (2 ^ 32))
  where
    by : (b : Bool) → (if b then judging_steps sign text else 0) ≤ check_limit (length text)
    by true = judging_few sign text
    by false = omega arith

-- a command adds at most the check limit of the text that it judges
pub count-le : (judged : Option JudgedText) → text_steps judged ≤ text_limit judged
count-le None = lit≤ tt
count-le (Some judged) = judging_few judged.sign judged.text

pub run-state : (sign : SignData) (state : StateData) (commands : List Command) (last : Command)
    → (run sign state (commands ++ last ∷ [])).state ≡ (step sign (run sign state commands).state last).state
run-state sign state [] last = refl
run-state sign state (first ∷ commands) last = run-state sign (step sign state first).state commands last

pub run-replies : (sign : SignData) (state : StateData) (commands : List Command) (last : Command)
    → (run sign state (commands ++ last ∷ [])).replies ≡ (run sign state commands).replies ++ (step sign (run sign state commands).state last).reply ∷ []
run-replies sign state [] last = refl
run-replies sign state (first ∷ commands) last = ap (λ (l : List Reply). (step sign state first).reply ∷ l) (run-replies sign (step sign state first).state commands last)

pub run-limit : (sign : SignData) (state : StateData) (commands : List Command) (last : Command)
    → run_limit sign state (commands ++ last ∷ []) ≡ run_limit sign state commands + text_limit (text_judged sign (run sign state commands).state last)
run-limit sign state [] last = omega arith
run-limit sign state (first ∷ commands) last = omega (arith, run-limit sign (step sign state first).state commands last)

pub run-steps : (sign : SignData) (state : StateData) (commands : List Command) (last : Command)
    → run_steps sign state (commands ++ last ∷ []) ≡ run_steps sign state commands + text_steps (text_judged sign (run sign state commands).state last)
run-steps sign state [] last = omega arith
run-steps sign state (first ∷ commands) last = omega (arith, run-steps sign (step sign state first).state commands last)

-- the first commands of a list are done
pub record IsDone (sign : SignData) (state : StateData) (commands : List Command) (n started : ℕ) (now : StateData) (replies : List Reply) (steps : ℕ) : Type 0 where
  pub state_is : now ≡ (run sign state (take n commands)).state
  pub replies_are : replies ≡ (run sign state (take n commands)).replies
  pub steps_few : steps ≤ started + run_limit sign state (take n commands)
  pub counts : steps ≡ raised started (run_steps sign state (take n commands))

-- one more command is done
pub next-run : (sign own : SignData) (state : StateData) (commands : List Command) (i started : ℕ) (command d : Command) (now new : StateData) (replies more : List Reply) (reply : Reply) (steps after : ℕ)
    → i < length commands → command ≡ slice_index_or commands i d → own ≡ sign
    → IsDone sign state commands i started now replies steps
    → new ≡ (step own now command).state → reply ≡ (step own now command).reply → more ≡ replies ++ reply ∷ []
    → after ≡ raised steps (text_steps (text_judged own now command))
    → IsDone sign state commands (i + 1) started new more after
next-run sign own state commands i started command d now new replies more reply steps after below item same done state-is reply-is more-is count =
    let taken : take (i + 1) commands ≡ take i commands ++ command ∷ [] = take_more commands i d below ∙ ap (λ (x : Command). take i commands ++ x ∷ []) (sym item) in
    let more-steps = run-steps sign state (take i commands) command in
    let same-steps = ap (λ (s : SignData). text_steps (text_judged s now command)) same ∙ ap (λ (st : StateData). text_steps (text_judged sign st command)) done.state_is in
    let limit = run-limit sign state (take i commands) command in
    let limit' = ap (λ (s : SignData). text_limit (text_judged s now command)) same ∙ ap (λ (st : StateData). text_limit (text_judged sign st command)) done.state_is in
    record {
      state_is = state-is ∙ ap (λ (s : SignData). (step s now command).state) same ∙ ap (λ (st : StateData). (step sign st command).state) done.state_is
          ∙ sym (run-state sign state (take i commands) command) ∙ ap (λ (l : List Command). (run sign state l).state) (sym taken);
      replies_are = more-is
          ∙ ap (λ (r : Reply). replies ++ r ∷ []) (reply-is ∙ ap (λ (s : SignData). (step s now command).reply) same ∙ ap (λ (st : StateData). (step sign st command).reply) done.state_is)
          ∙ ap (λ (l : List Reply). l ++ (step sign (run sign state (take i commands)).state command).reply ∷ []) done.replies_are
          ∙ sym (run-replies sign state (take i commands) command) ∙ ap (λ (l : List Command). (run sign state l).replies) (sym taken);
      steps_few = omega (arith, done.steps_few, count-le (text_judged own now command), count, limit, limit', ap (λ (l : List Command). run_limit sign state l) taken);
      counts = omega (arith, done.counts, count, more-steps, same-steps, ap (λ (l : List Command). run_steps sign state l) taken);
    }
