-- The controller that a handle holds, and what a host asks of it.
use Rattle.std.specs.Prelude.{◌≡◌, ◌≢◌, ◌⊎◌, ℕ, List, Option, Some, None, IsSomeAnd, length, true, false}
use Rattle.message_store.specs.Limits.{can_be_made, made}
use Rattle.sign_file.specs.SignFile.{FileData, file_of_octets}
use Rattle.step_count.specs.Count.{raised}
use Rattle.sign_control.specs.Counts.{text_judged, text_steps}
use Rattle.sign_control.specs.Revision.{revised}
use Rattle.sign_control.specs.State.{ControllerData, started}
use Rattle.sign_control.specs.Step.{step}
use Rattle.sign_control.specs.declared.command.Command.{Command}
use Rattle.sign_control.specs.declared.command.Reply.{Reply}
use Rattle.latsefur_c.specs.declared.reply.LatsefurReply.{LatsefurReply}
use Rattle.latsefur_c.specs.Outcome.{HasNoSign, sign_of_file}
use Rattle.latsefur_c.specs.Replied.{IsReply}

-- a controller at the start, of the sign and the message table of a file (own)
abbrev pub SetsUp : List ℕ → ControllerData → Type 0
SetsUp file controller =
    (described : FileData) × (file_of_octets file ≡ Some described) × (sign_of_file file ≡ Some controller.sign)
    × (can_be_made described.limits described.permanents ≡ true)
    × (controller.state ≡ started controller.sign.defaults (made described.limits described.permanents)) × (controller.steps ≡ 0)
    × (controller.revision ≡ 0)

-- there is no controller: there is no sign, or the message table is outside its limits (8) (own)
abbrev pub LacksController : List ℕ → ℕ → Type 0
LacksController file outcome =
    HasNoSign file outcome
    ⊎ ((outcome ≡ 8)
    × ((described : FileData) × (file_of_octets file ≡ Some described) × (can_be_made described.limits described.permanents ≡ false)))

-- the handle holds the controller of a file; or there is none, and it holds what it held (own)
abbrev pub IsMade : List ℕ → Option ControllerData → Option ControllerData → ℕ → Type 0
IsMade file old new outcome = ((outcome ≡ 0) × IsSomeAnd new (SetsUp file)) ⊎ (LacksController file outcome × (new ≡ old))

-- the state, the sign and the revision of a controller are these (own)
abbrev pub IsIn : ControllerData → ControllerData → Type 0
IsIn old new = (new.state ≡ old.state) × (new.sign ≡ old.sign) × (new.revision ≡ old.revision)

-- a controller after a command: its sign and its plane are the same, its state is that of the step, its revision is that after its reply,
-- and its count has risen by the steps of judging the command's text (own)
abbrev pub IsAfter : Command → ControllerData → ControllerData → Type 0
IsAfter command old new =
    (new.state ≡ (step old.sign old.state command).state) × (new.sign ≡ old.sign) × (new.plane ≡ old.plane)
    × (new.revision ≡ revised old.revision (step old.sign old.state command).reply)
    × (new.steps ≡ raised old.steps (text_steps (text_judged old.sign old.state command)))

-- a command makes its step; without a controller nothing is done (own)
abbrev pub Applies : Option ControllerData → Command → Option ControllerData → Option Reply → Type 0
Applies None command new answer = (answer ≡ None) × (new ≡ None)
Applies (Some old) command new answer = IsSomeAnd new (IsAfter command old) × (answer ≡ Some (step old.sign old.state command).reply)

-- a command makes its step, and its reply is told; or there is no controller (9), and nothing is done (own)
abbrev pub Asks : Command → Option ControllerData → Option ControllerData → LatsefurReply → LatsefurReply → ℕ → Type 0
Asks command None new was told outcome = (outcome ≡ 9) × (new ≡ None) × (told ≡ was)
Asks command (Some old) new was told outcome =
    (outcome ≡ 0) × IsSomeAnd new (IsAfter command old) × IsReply (step old.sign old.state command).reply told

-- nothing is done, for a reason that has a number (own)
abbrev pub IsRefused : ℕ → Option ControllerData → Option ControllerData → LatsefurReply → LatsefurReply → ℕ → Type 0
IsRefused reason old new was told outcome = (outcome ≡ reason) × (new ≡ old) × (told ≡ was)

-- a command with a code of so many octets; one of any other length is refused (10) (own)
abbrev pub AsksByCode :
    ℕ → (List ℕ → Command) → List ℕ → Option ControllerData → Option ControllerData → LatsefurReply → LatsefurReply → ℕ → Type 0
AsksByCode count command code old new was told outcome =
    ((length code ≢ count) × IsRefused 10 old new was told outcome) ⊎ ((length code ≡ count) × Asks (command code) old new was told outcome)
