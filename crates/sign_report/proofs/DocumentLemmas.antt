-- What is taken is a document.
use Rattle.std.proofs.Common.{◌≡◌, ℕ, Bool, true, false, List, Option, None, Some, IsSome, refl}
use Rattle.std.specs.Prelude.{◌&&◌, if◌then◌else◌}
use Rattle.std.specs.Str.{is_utf8}
use Rattle.toml.specs.Data.{Members}
use Rattle.toml.specs.Parse.{parse_document}
use Rattle.sign_file.specs.Keys.{◌>>=◌}
use Rattle.sign_file.specs.Nesting.{is_shallow}
use Rattle.sign_file.specs.SignFile.{file_of_octets, file_of_table}
use Rattle.sign_report.specs.Document.{IsDocument}
use Rattle.sign_report.specs.Lines.{has_file_lines}
use Rattle.sign_report.specs.Setup.{is_made, is_taken, is_whole}

-- both are so
both : (a b : Bool) → a && b ≡ true → (a ≡ true) × (b ≡ true)
both true true h = (refl, refl)
both true false h = absurd (let other : false ≡ true = h in cc)
both false b h = absurd (let other : false ≡ true = h in cc)

-- nothing is whole that isn't there
not_there : is_whole None ≡ true → ⊥
unfolding is_whole
not_there h = let other : false ≡ true = h in cc

-- a document is there
parsed : (members : Option Members) → is_whole (members >>= file_of_table) ≡ true → IsSome members
parsed None h = absurd (not_there h)
parsed (Some members) h = refl

-- what is read as a file is text that nests no deeper than a file may, and a document
read_as : (text : Bool) (shallow : Bool) (members : Option Members) → is_whole (if text && shallow then members >>= file_of_table else None) ≡ true
    → (text ≡ true) × (shallow ≡ true) × IsSome members
read_as true true members h = (refl, refl, parsed members h)
read_as true false members h = absurd (not_there h)
read_as false shallow members h = absurd (not_there h)

pub document : (octets : List ℕ) → is_taken octets ≡ true → IsDocument octets
unfolding file_of_octets
document octets h = read_as (is_utf8 octets) (is_shallow octets) (parse_document octets) (both (is_made octets) (has_file_lines octets) h).0
