-- Why a body has no value.
use Rattle.std.specs.Prelude.{ℕ}
use Rattle.multi_tag.specs.declared.tag.TagFault.{TagFault}
use Rattle.multi_tag.specs.declared.tag.TagFault.TheVariants.{Unsupported, Value}

-- the number of a fault: unsupportedTag, unsupportedTagValue (NTCIP 1203 v03, dmsMultiSyntaxError)
abbrev pub fault_code : TagFault → ℕ
fault_code Unsupported = 3
fault_code Value = 4
