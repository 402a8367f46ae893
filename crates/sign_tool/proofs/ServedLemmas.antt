-- The replies of a served sign, line by line.
use Rattle.std.proofs.Common.{◌≡◌, inl, inr, ℕ, suc, ◌<◌, Bool, true, false, List, [], ◌∷◌, ◌++◌, length, Option, Some, None, Result, Ok, Err, fold, refl, sym, ap, ◌∙◌, arith, append_assoc, append-nil}
use Rattle.std.specs.Prelude.{nat_lt}
use Rattle.std.proofs.lemmas.Bool.{cases_Bool, lt-ltb}
use Rattle.std.proofs.lemmas.List.{length-append}
use Rattle.std.proofs.lemmas.List.Sums.{fold-append}
use Rattle.saved_octets.specs.declared.fault.StateFault.{StateFault}
use Rattle.sign_font.specs.Sign.{SignData}
use Rattle.sign_control.specs.Saved.{restored}
use Rattle.sign_control.specs.State.{StateData}
use Rattle.sign_control.specs.Step.{step}
use Rattle.sign_script.specs.Fields.{octets_of}
use Rattle.sign_script.specs.declared.ask.Ask.TheVariants as ask
use Rattle.sign_script.specs.declared.question.Question.{Question}
use Rattle.sign_script.specs.declared.question.Question.TheVariants as question
use Rattle.sign_script.specs.Questions.{question_of}
use Rattle.tool_streams.specs.Lines.{Cut, IsOneLine, cut, text_of}
use Rattle.tool_streams.specs.Lines as lines_as
use Rattle.tool_streams.proofs.SeenLemmas.{length-text_of}
use Rattle.sign_tool.specs.Script.{Told}
use Rattle.sign_tool.specs.Served.{served, told_line, told_or_bad, told_restore, told_restored}
use Rattle.sign_tool.specs.ServedLaws.{CommandsRun, OneReplyEach, ServesOn, acted, acts_of, line_acts, or_kept, restoring, served_acts}
use Rattle.sign_tool.specs.Serving.{ServerData, last_line, last_reply, replies_so_far, replies_to, replies_to_all, told_cut}
use Rattle.sign_tool.specs.internal.Blocks.{AreLines}
use Rattle.sign_tool.proofs.CutLemmas.{cut-lines, cut-unfinished}

-- ---- laws

pub one_reply_each : OneReplyEach
unfolding served
one_reply_each sign state [] = refl
one_reply_each sign state (line ∷ lines) = ap suc (one_reply_each sign ((told_line sign state line).state) lines)

-- commands alone make the state of the controller's run of them
pub commands_run : CommandsRun
commands_run sign state [] = refl
commands_run sign state (command ∷ commands) = commands_run sign (step sign state command).state commands

-- the state that octets leave
restored_told : (state : StateData) (new : Result StateData StateFault) → or_kept state new ≡ (told_restored state new).state
restored_told state (Ok new) = refl
restored_told state (Err fault) = refl

restoring_told : (sign : SignData) (state : StateData) (octets : Option (List ℕ))
    → fold (acted sign) state (restoring octets) ≡ (told_restore sign state octets).state
restoring_told sign state None = refl
restoring_told sign state (Some octets) = restored_told state (restored sign state.store octets)

-- the state that a question leaves is made by what it changes
question_told : (sign : SignData) (state : StateData) (asked : Option Question) → fold (acted sign) state (acts_of asked) ≡ (told_or_bad sign state asked).state
question_told sign state None = refl
question_told sign state (Some (question.Script (ask.Command command))) = refl
question_told sign state (Some (question.Script ask.Nothing)) = refl
question_told sign state (Some (question.Script (ask.Frame colour))) = refl
question_told sign state (Some (question.Script (ask.Row message))) = refl
question_told sign state (Some (question.Script ask.Report)) = refl
question_told sign state (Some (question.Script ask.Defaults)) = refl
question_told sign state (Some question.Colours) = refl
question_told sign state (Some (question.Verdict text)) = refl
question_told sign state (Some (question.Crc text)) = refl
question_told sign state (Some question.Next) = refl
question_told sign state (Some (question.Code message duration priority)) = refl
question_told sign state (Some question.Help) = refl
question_told sign state (Some (question.VerdictHex digits)) = refl
question_told sign state (Some (question.CrcHex digits)) = refl
question_told sign state (Some question.Save) = refl
question_told sign state (Some (question.Restore digits)) = restoring_told sign state (octets_of digits.now)

line_told : (sign : SignData) (state : StateData) (line : List ℕ) → fold (acted sign) state (line_acts line) ≡ (told_line sign state line).state
line_told sign state line =
    elim (cases_Bool (nat_lt 8300 (length line))) [
      | inl long ↦ rw long refl
      | inr short ↦ rw short (question_told sign state (question_of line))
    ]

pub serves_on : ServesOn
unfolding served
serves_on sign state [] after = refl
serves_on sign state (line ∷ lines) after =
    let t = told_line sign state line in
    let same : fold (acted sign) state (served_acts (line ∷ lines)) ≡ fold (acted sign) t.state (served_acts lines) =
    fold-append (acted sign) state (line_acts line) (served_acts lines) ∙ ap (λ (s : StateData). fold (acted sign) s (served_acts lines)) (line_told sign state line) in
    ap (λ (l : List (List ℕ)). t.text ∷ l) (serves_on sign t.state lines after)
    ∙ ap (λ (s : StateData). t.text ∷ (served sign t.state lines ++ served sign s after)) (sym same)

-- ---- the replies to lines

pub replies_none : (server : ServerData) → replies_to server [] ≡ []
unfolding served
replies_none server = refl

-- the server after a line
abbrev pub served_by : ServerData → List ℕ → ServerData
served_by server line = record { sign = server.sign; state = (told_line server.sign server.state (text_of line)).state }

pub replies_more : (server : ServerData) (line : List ℕ) (more : List (List ℕ))
    → replies_to server (line ∷ more) ≡ (told_line server.sign server.state (text_of line)).text ++ replies_to (served_by server line) more
unfolding served
replies_more server line more = refl

-- what was passed over of a line
abbrev pub IsLost : Bool → List ℕ → Type 0
IsLost true lost = 8301 < length lost
IsLost false lost = lost ≡ []

pub cut_line_told : (server : ServerData) (is_cut : Bool) (lost line : List ℕ) → IsLost is_cut lost
    → told_cut server is_cut line ≡ told_line server.sign server.state (text_of (lost ++ line))
cut_line_told server true lost line long =
    let over : nat_lt 8300 (length (text_of (lost ++ line))) ≡ true = lt-ltb _ _ (omega (arith, long, length-append lost line, length-text_of (lost ++ line))) in
    rw over refl
cut_line_told server false lost line none = rw none refl

-- what stands after the last line feed
pub last_told : (server : ServerData) (is_cut : Bool) (lost line : List ℕ) → IsLost is_cut lost
    → replies_to server (last_line (lost ++ line)) ≡ last_reply server is_cut line
last_told server true [] line long = absurd (omega arith)
last_told server true (c ∷ lost) line long =
    replies_more server ((c ∷ lost) ++ line) [] ∙ ap (λ l. (told_line server.sign server.state (text_of ((c ∷ lost) ++ line))).text ++ l) (replies_none _)
    ∙ append-nil _ ∙ ap (λ (t : Told). t.text) (sym (cut_line_told server true (c ∷ lost) line long))
last_told server false lost [] none = rw none (replies_none server)
last_told server false lost (c ∷ line) none =
    rw none (replies_more server (c ∷ line) [] ∙ ap (λ l. (told_line server.sign server.state (text_of (c ∷ line))).text ++ l) (replies_none _) ∙ append-nil _)

-- ---- what was taken so far

-- these lines were taken, and these replies were given to them, whatever comes
pub record Given (server here : ServerData) (taken given : List ℕ) (lines : List (List ℕ)) : Type 0 where
  pub taken_is : taken ≡ lines_as.octets_of lines
  pub each : AreLines lines
  pub says : (more : List (List ℕ)) → replies_to server (lines ++ more) ≡ given ++ replies_to here more

module _ (server here : ServerData) (taken given : List ℕ) (lines : List (List ℕ)) (g : Given server here taken given lines) where
  -- the replies to all lines go on with those to the lines of what stands after
  pub replies_go_on : (rest : List ℕ) → replies_to_all server (taken ++ rest) ≡ given ++ replies_to here ((cut rest).whole ++ last_line (cut rest).rest)
  unfolding replies_to_all
  replies_go_on rest =
      let parts = ap (λ l. cut (l ++ rest)) g.taken_is ∙ cut-lines lines rest g.each in
      ap (λ (c : Cut). replies_to server (c.whole ++ last_line c.rest)) parts
      ∙ ap (replies_to server) (append_assoc lines (cut rest).whole (last_line (cut rest).rest)) ∙ g.says _

  -- an unfinished line is no whole line
  pub so_far : (line : List ℕ) → IsOneLine line → replies_so_far server (taken ++ line) ≡ given
  unfolding replies_so_far
  so_far line one =
      let parts = ap (λ l. cut (l ++ line)) g.taken_is ∙ cut-lines lines line g.each ∙ ap (λ (c : Cut). let d : Cut = record { whole = lines ++ c.whole; rest = c.rest } in d) (cut-unfinished line one) in
      ap (λ (c : Cut). replies_to server c.whole) parts ∙ g.says [] ∙ ap (λ l. given ++ l) (replies_none here) ∙ append-nil given

  -- the last line
  pub whole : (line : List ℕ) → IsOneLine line → replies_to_all server (taken ++ line) ≡ given ++ replies_to here (last_line line)
  whole line one =
      replies_go_on line ∙ ap (λ (c : Cut). given ++ replies_to here (c.whole ++ last_line c.rest)) (cut-unfinished line one)
