-- A controller's reply, in numbers.
use Rattle.std.specs.Prelude.{◌≡◌, ℕ}
use Rattle.message_store.specs.Fault.{fault_code}
use Rattle.sign_control.specs.declared.command.Reply.{Reply}
use Rattle.sign_control.specs.declared.command.Reply.TheVariants as reply
use Rattle.sign_font.specs.Fault.{default_code}
use Rattle.latsefur_c.specs.declared.reply.LatsefurReply.{LatsefurReply}

-- the reply of a kind that has no numbers but a code (own)
abbrev pub numbers : ℕ → ℕ → LatsefurReply
numbers kind code = record { kind = kind; code = code; status = 0; validate_error = 0; multi_error = 0; number = 0; multi_position = 0 }

-- these are the numbers of a reply (own)
abbrev pub IsReply : Reply → LatsefurReply → Type 0
IsReply reply.Done told = told ≡ numbers 0 0
IsReply (reply.Refused fault) told = told ≡ numbers 1 (fault_code fault)
IsReply reply.Idle told = told ≡ numbers 2 0
IsReply (reply.Worked number status validate_error multi_error multi_position) told =
    told ≡ record {
      kind = 3;
      code = 0;
      status = status;
      validate_error = validate_error;
      multi_error = multi_error;
      number = number;
      multi_position = multi_position;
    }
IsReply reply.Shown told = told ≡ numbers 4 0
IsReply (reply.NotShown error) told = told ≡ numbers 5 error
IsReply (reply.NotSet fault) told = told ≡ numbers 6 (default_code fault)
IsReply reply.Ticked told = told ≡ numbers 7 0
IsReply reply.Ended told = told ≡ numbers 8 0
