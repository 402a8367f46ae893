-- The numbers of errors.
use Rattle.std.specs.Prelude.{ℕ}
use Rattle.multi_meaning.specs.declared.fault.SyntaxError.{SyntaxError}
use Rattle.multi_meaning.specs.declared.fault.SyntaxError.TheVariants.{UnsupportedTag, UnsupportedTagValue, TextTooBig, FontNotDefined, CharacterNotDefined, TagConflict, TooManyPages, FontVersionId}

-- the number of an error (NTCIP 1203 v03, dmsMultiSyntaxError)
abbrev pub code_of : SyntaxError → ℕ
code_of UnsupportedTag = 3
code_of UnsupportedTagValue = 4
code_of TextTooBig = 5
code_of FontNotDefined = 6
code_of CharacterNotDefined = 7
code_of TagConflict = 11
code_of TooManyPages = 12
code_of FontVersionId = 13
