-- What a controller is seen as, at making and ever after.
use Rattle.std.specs.Prelude.{ℕ, List, [], None}
use Rattle.sign_font.specs.declared.parts.Defaults.{Defaults}
use Rattle.sign_font.specs.Sign.{SignData}
use Rattle.page_plane.specs.Plane.{BitPlane}
use Rattle.message_store.specs.Slot.{StoreData}
use Rattle.sign_control.specs.declared.code.ActivateError.TheVariants as error
use Rattle.sign_control.specs.declared.code.IdCode.{IdCode}
use Rattle.sign_control.specs.declared.code.SourceMode.TheVariants as mode
use Rattle.sign_control.specs.declared.command.Reply.{Reply}
use Rattle.sign_control.specs.declared.display.Display.{Display}
use Rattle.sign_control.specs.declared.display.Registers.{Registers}
use Rattle.sign_control.specs.Activation.{blank_one, displayed}

-- the messages, the defaults in force, the display with its own text, the registers, and the message that follows the end
-- of a duration (NTCIP 1203 v03, groups dmsMessage, multiCfg and signControl)
pub record StateData : Type 0 where
  pub store : StoreData
  pub defaults : Defaults
  pub display : Display
  pub text : List ℕ
  pub registers : Registers
  pub end : IdCode

-- a new state and a reply (own)
pub record Stepped : Type 0 where
  pub state : StateData
  pub reply : Reply

-- a controller: its sign, its state, its plane, the steps that it has counted, and its revision (own)
pub record ControllerData : Type 0 where
  pub sign : SignData
  pub state : StateData
  pub plane : BitPlane
  pub steps : ℕ
  pub revision : ℕ

-- what is shown at making: blank 1, without end, for nobody (own)
abbrev pub start : Defaults → Display
start defaults = displayed (blank_one defaults) (record { clock = 0; remaining = None; requester = 0; mode = mode.Other })

-- the registers at making: no error (NTCIP 1203 v03, dmsActivateMsgError, dmsValidateMessageError, dmsMultiSyntaxError)
abbrev pub no_errors : Registers
no_errors = record { activate = error.None; validate = 2; multi = 2; position = 0 }

-- the state at making: the sign's defaults, blank 1 shown, no error, and blank 1 with CRC 0 after a duration (own)
abbrev pub started : Defaults → StoreData → StateData
started defaults store = record {
  store = store;
  defaults = defaults;
  display = start defaults;
  text = [];
  registers = no_errors;
  end = record { message = record { memory = 7; number = 1 }; crc = 0 };
}
