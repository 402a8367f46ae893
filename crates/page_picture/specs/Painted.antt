-- Painting among the colours of pixels, an octet each, which may have more octets after them.
use Rattle.std.specs.Prelude.{◌≡◌, ℕ, ◌+◌, ◌*◌, ◌<◌, ◌≤◌, Bool, List, drop, length, if◌then◌else◌}
use Rattle.page_plane.specs.Plane.{BitPlane}
use Rattle.sign_font.specs.Sign.{SignData}
use Rattle.page_picture.specs.Dots.{value_at}

-- each pixel of a page of this size has its value by column and row (own)
abbrev pub HaveValues : ℕ → ℕ → (ℕ → ℕ → ℕ) → List ℕ → Type 0
HaveValues width height at octets = (column row : ℕ) → column < width → row < height → value_at octets width column row ≡ at column row

-- of the pixels of a page of this size, those that a test of column and row has got a colour; all other octets are as before (own)
pub record IsPainted (width height colour : ℕ) (has : ℕ → ℕ → Bool) (old new : List ℕ) : Type 0 where
  pub count : length new ≡ length old
  pub pixels : HaveValues width height (λ column row. if has column row then colour else value_at old width column row) new
  pub behind : drop (width * height) new ≡ drop (width * height) old

-- how many pixels a sign has (NTCIP 1203 v03, objects vmsSignWidthPixels and vmsSignHeightPixels)
abbrev pub pixel_count : SignData → ℕ
pixel_count sign = sign.width * sign.height

-- drawing in a plane takes at most this many of its steps (own)
abbrev pub TakesSteps : BitPlane → BitPlane → ℕ → Type 0
TakesSteps old new most = (old.steps ≤ new.steps) × (new.steps ≤ old.steps + most)
