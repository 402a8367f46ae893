-- What machines read of what is found in a sign file.
use Rattle.std.specs.Prelude.{ℕ, ℤ, List, [], ◌++◌, Option, None, Some, codes, decimal}
use Rattle.std.specs.Fmt.{signed_decimal}
use Rattle.sign_words.specs.declared.code.Code.{Code}
use Rattle.sign_words.specs.declared.code.Code.TheVariants as code
use Rattle.sign_words.specs.declared.place.Entry.{Entry}
use Rattle.sign_words.specs.declared.place.Place.{Place}
use Rattle.sign_words.specs.declared.place.Place.TheVariants as place

-- the word by which programs know a kind of finding (own)
unfoldable pub code_word : Code → List ℕ
code_word code.NotText = codes "not-text"
code_word code.TooDeep = codes "too-deep"
code_word code.NotToml = codes "not-toml"
code_word code.NotTaken = codes "not-taken"
code_word code.LongLine = codes "long-line"
code_word code.MarkLine = codes "mark-line"
code_word code.Missing = codes "missing"
code_word code.Misplaced = codes "misplaced"
code_word code.WrongValue = codes "wrong-value"
code_word code.TooMany = codes "too-many"
code_word code.TooLong = codes "too-long"
code_word code.WrongBits = codes "wrong-bits"
code_word code.NotRising = codes "not-rising"
code_word code.NoFont = codes "no-font"
code_word code.Refused = codes "refused"
code_word code.Unknown = codes "unknown"
code_word code.SameColour = codes "same-colour"
code_word code.FewBytes = codes "few-bytes"
code_word code.NoService = codes "no-service"
code_word code.NoSpace = codes "no-space"
code_word code.EmptyFont = codes "empty-font"
code_word code.TallFont = codes "tall-font"
code_word code.NoTime = codes "no-time"
code_word code.Alike = codes "alike"
code_word code.LineFeed = codes "line-feed"

-- an entry of an array of tables by its number, or by its place if it has none (own)
abbrev pub entry_text : List ℕ → Entry → List ℕ
entry_text name entry = name ++ of entry.number
  where
    of : Option ℤ → List ℕ
    of (Some number) = codes " " ++ signed_decimal number
    of None = codes " at place " ++ decimal entry.place

-- the name of a table, which is empty for the document and for the text (own)
unfoldable pub place_text : Place → List ℕ
place_text place.Text = []
place_text place.Sign = []
place_text place.Defaults = codes "[defaults]"
place_text (place.Font font) = entry_text (codes "font") font
place_text (place.Cell font cell) = entry_text (codes "font") font ++ entry_text (codes ", cell") cell
place_text (place.Permanent message) = codes "permanent message " ++ decimal message.place
