-- What the octets of a sign file are in which no fault is found.
use Rattle.std.specs.Prelude.{◌≡◌, ℕ, true, List, IsSome}
use Rattle.std.specs.Str.{is_utf8}
use Rattle.toml.specs.Parse.{parse_document}
use Rattle.sign_file.specs.Nesting.{is_shallow}

-- octets are text in UTF-8 that nests no deeper than a sign file may, and a TOML document (own)
abbrev pub IsDocument : List ℕ → Type 0
IsDocument octets = (is_utf8 octets ≡ true) × (is_shallow octets ≡ true) × IsSome (parse_document octets)
