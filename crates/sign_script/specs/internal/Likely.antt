-- The verb that a line can only begin with.
use Rattle.std.specs.Prelude.{ℕ, List, ◌==◌, ◌&&◌, if◌then◌else◌, Option, None, Some, slice_index_or}
use Rattle.sign_script.specs.declared.verb.Verb.{Verb}
use Rattle.sign_script.specs.declared.verb.Verb.TheVariants as verb

-- the one verb whose word may stand at the front of a line, by the octets that tell words apart (own)
abbrev pub likely : List ℕ → Option Verb
likely line =
    if slice_index_or line 0 0 == 114 && slice_index_or line 2 0 == 113 then Some verb.Request
    else if slice_index_or line 0 0 == 109 && slice_index_or line 5 0 == 120 then Some verb.MultiHex
    else if slice_index_or line 0 0 == 109 then Some verb.Multi
    else if slice_index_or line 0 0 == 111 then Some verb.Owner
    else if slice_index_or line 0 0 == 112 && slice_index_or line 2 0 == 105 then Some verb.Priority
    else if slice_index_or line 0 0 == 98 then Some verb.Beacon
    else if slice_index_or line 0 0 == 112 && slice_index_or line 2 0 == 120 then Some verb.Pixel
    else if slice_index_or line 0 0 == 99 then Some verb.Clear
    else if slice_index_or line 0 0 == 119 then Some verb.Work
    else if slice_index_or line 0 0 == 97 then Some verb.Activate
    else if slice_index_or line 0 0 == 101 then Some verb.End
    else if slice_index_or line 0 0 == 116 then Some verb.Tick
    else if slice_index_or line 0 0 == 102 then Some verb.Frame
    else if slice_index_or line 0 0 == 114 && slice_index_or line 2 0 == 119 then Some verb.Row
    else if slice_index_or line 0 0 == 114 && slice_index_or line 2 0 == 112 then Some verb.Report
    else if slice_index_or line 0 0 == 100 && slice_index_or line 7 0 == 115 then Some verb.Defaults
    else if slice_index_or line 0 0 == 100 then Some verb.Default
    else None
