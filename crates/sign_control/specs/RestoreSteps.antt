-- How many steps restoring octets takes.
use Rattle.std.specs.Prelude.{ℕ, ◌||◌, is_some, if◌then◌else◌, List, Result, Ok, Err}
use Rattle.sign_font.specs.Defaults.{default_fault, under}
use Rattle.sign_font.specs.Sign.{SignData}
use Rattle.multi_meaning.specs.Steps.{judging_steps}
use Rattle.message_store.specs.Slot.{StoreData}
use Rattle.saved_octets.specs.declared.fault.StateFault.{StateFault}
use Rattle.sign_control.specs.declared.parts.Parts.{Parts}
use Rattle.sign_control.specs.Saved.{ReadData, read_in}

-- the steps of judging the display's text by its defaults; the text isn't judged if the sign refuses the defaults in force or those of
-- the display (own)
unfoldable pub fault_steps : SignData → Parts → List ℕ → ℕ
fault_steps sign parts text =
    if is_some (default_fault sign parts.defaults) || is_some (default_fault sign parts.display.defaults) then 0
    else judging_steps (under sign parts.display.defaults) text

-- the same of what was read; nothing is judged if it couldn't be read (own)
abbrev pub read_steps : SignData → Result ReadData StateFault → ℕ
read_steps sign (Ok read) = fault_steps sign read.parts read.text
read_steps sign (Err fault) = 0

-- the steps of restoring octets: those of judging the text that the display shows, which is the only one that is judged (own)
abbrev pub restore_steps : SignData → StoreData → List ℕ → ℕ
restore_steps sign store octets = read_steps sign (read_in store.limits.max_string octets)
