-- The words that lines begin with, and the names of the defaults.
use Rattle.std.specs.Prelude.{ℕ, List, if◌then◌else◌, Option, None, Some, codes}
use Rattle.std.specs.Str.{bytes_eq}
use Rattle.sign_control.specs.declared.command.DefaultField.{DefaultField}
use Rattle.sign_control.specs.declared.command.DefaultField.TheVariants as field
use Rattle.sign_script.specs.declared.verb.Verb.{Verb}
use Rattle.sign_script.specs.declared.verb.Verb.TheVariants as verb

-- the word of a verb (own)
abbrev pub word : Verb → List ℕ
word verb.Request = codes "request"
word verb.Multi = codes "multi"
word verb.MultiHex = codes "multix"
word verb.Owner = codes "owner"
word verb.Priority = codes "priority"
word verb.Beacon = codes "beacon"
word verb.Pixel = codes "pixel"
word verb.Clear = codes "clear"
word verb.Work = codes "work"
word verb.Activate = codes "activate"
word verb.End = codes "end"
word verb.Tick = codes "tick"
word verb.Frame = codes "frame"
word verb.Row = codes "row"
word verb.Report = codes "report"
word verb.Default = codes "default"
word verb.Defaults = codes "defaults"

-- the verb of a word, if it is one (own)
unfoldable pub verb_of : List ℕ → Option Verb
verb_of w =
    if bytes_eq w (codes "request") then Some verb.Request
    else if bytes_eq w (codes "multi") then Some verb.Multi
    else if bytes_eq w (codes "multix") then Some verb.MultiHex
    else if bytes_eq w (codes "owner") then Some verb.Owner
    else if bytes_eq w (codes "priority") then Some verb.Priority
    else if bytes_eq w (codes "beacon") then Some verb.Beacon
    else if bytes_eq w (codes "pixel") then Some verb.Pixel
    else if bytes_eq w (codes "clear") then Some verb.Clear
    else if bytes_eq w (codes "work") then Some verb.Work
    else if bytes_eq w (codes "activate") then Some verb.Activate
    else if bytes_eq w (codes "end") then Some verb.End
    else if bytes_eq w (codes "tick") then Some verb.Tick
    else if bytes_eq w (codes "frame") then Some verb.Frame
    else if bytes_eq w (codes "row") then Some verb.Row
    else if bytes_eq w (codes "report") then Some verb.Report
    else if bytes_eq w (codes "default") then Some verb.Default
    else if bytes_eq w (codes "defaults") then Some verb.Defaults
    else None

-- the name of a default, as sign files write it (own)
abbrev pub name : DefaultField → List ℕ
name field.Font = codes "font"
name field.Line = codes "line"
name field.Page = codes "page"
name field.PageOn = codes "page_on"
name field.PageOff = codes "page_off"
name field.FlashOn = codes "flash_on"
name field.FlashOff = codes "flash_off"
name field.Fore = codes "fore"
name field.Back = codes "back"

-- the default of a name, if it is one (own)
unfoldable pub field_of : List ℕ → Option DefaultField
field_of w =
    if bytes_eq w (codes "font") then Some field.Font
    else if bytes_eq w (codes "line") then Some field.Line
    else if bytes_eq w (codes "page") then Some field.Page
    else if bytes_eq w (codes "page_on") then Some field.PageOn
    else if bytes_eq w (codes "page_off") then Some field.PageOff
    else if bytes_eq w (codes "flash_on") then Some field.FlashOn
    else if bytes_eq w (codes "flash_off") then Some field.FlashOff
    else if bytes_eq w (codes "fore") then Some field.Fore
    else if bytes_eq w (codes "back") then Some field.Back
    else None
