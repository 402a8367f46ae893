-- One bit plane: a set of pixels of a fixed size, and the steps that were taken over it.
use Rattle.std.specs.Prelude.{◌≡◌, ℕ, ◌+◌, ◌*◌, Bool, false, ◌&&◌, nat_lt, List, length, slice_index_or}

-- a plane: its width and height in pixels, the steps so far, and of each pixel whether it is lit, row by row
-- from the top and each row from the left (own)
pub record BitPlane : Type 0 where
  pub width : ℕ
  pub height : ℕ
  pub steps : ℕ
  pub pixels : List Bool
  -- each pixel is there once
  pub sized : length pixels ≡ width * height

-- the pixel of this column and row is lit; outside the plane no pixel is (own)
unfoldable pub is_lit : BitPlane → ℕ → ℕ → Bool
is_lit plane x y = nat_lt x plane.width && (nat_lt y plane.height && slice_index_or plane.pixels (y * plane.width + x) false)
