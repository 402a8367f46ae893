-- The names of errors.
use Rattle.std.specs.Prelude.{ℕ, ◌==◌, List, codes, if◌then◌else◌}

-- the name of an error (NTCIP 1203 v03, dmsMultiSyntaxError)
unfoldable pub name_of : ℕ → List ℕ
name_of code =
    if code == 3 then codes "unsupportedTag"
    else (if code == 4 then codes "unsupportedTagValue"
    else (if code == 5 then codes "textTooBig"
    else (if code == 6 then codes "fontNotDefined"
    else (if code == 7 then codes "characterNotDefined"
    else (if code == 11 then codes "tagConflict"
    else (if code == 12 then codes "tooManyPages"
    else codes "fontVersionID"))))))
