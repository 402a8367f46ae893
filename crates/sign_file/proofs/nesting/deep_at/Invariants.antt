use Rattle.std.proofs.Common.{◌≡◌, ◌<◌, ℕ, length}
use denote.Text.{Utf8}
use denote.Shadow.{shadow}
use Rattle.sign_file.specs.Nesting.{fits, is_shallow, outside}
use Rattle.sign_file.specs.internal.Octets.{IsWithin}
use Rattle.sign_file.proofs.nesting.deep_at.Given as goal

abbrev pub invariant-octets : goal.invariant-octets
invariant-octets l =
    shadow (Utf8 l.rest) × IsWithin l.nested
    × (n : ℕ) × (length l.rest < n)
    × (fits l.nested.brackets l.nested.dots (outside n l.rest) ≡ is_shallow l.fn.text)

abbrev pub decreases-octets : goal.decreases-octets
decreases-octets l = length l.rest
