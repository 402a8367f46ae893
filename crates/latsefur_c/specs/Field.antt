-- Which default a number names.
use Rattle.std.specs.Prelude.{ℕ, ◌==◌, if◌then◌else◌, Option, Some, None}
use Rattle.sign_control.specs.State.{ControllerData}
use Rattle.sign_control.specs.declared.command.Command.TheVariants.{SetDefault}
use Rattle.sign_control.specs.declared.command.DefaultField.{DefaultField}
use Rattle.sign_control.specs.declared.command.DefaultField.TheVariants as field
use Rattle.latsefur_c.specs.declared.reply.LatsefurReply.{LatsefurReply}
use Rattle.latsefur_c.specs.Held.{Asks, IsRefused}

-- the default of a number, if it has one (own)
abbrev pub field_numbered : ℕ → Option DefaultField
field_numbered number =
    if number == 1 then Some field.Font
    else (if number == 2 then Some field.Line
    else (if number == 3 then Some field.Page
    else (if number == 4 then Some field.PageOn
    else (if number == 5 then Some field.PageOff
    else (if number == 6 then Some field.FlashOn
    else (if number == 7 then Some field.FlashOff
    else (if number == 8 then Some field.Fore
    else (if number == 9 then Some field.Back else None))))))))

-- a default is set; or the number names none (11), and nothing is done (own)
abbrev pub SetsDefault :
    Option DefaultField → ℕ → Option ControllerData → Option ControllerData → LatsefurReply → LatsefurReply → ℕ → Type 0
SetsDefault None value old new was told outcome = IsRefused 11 old new was told outcome
SetsDefault (Some field) value old new was told outcome = Asks (SetDefault field value) old new was told outcome
