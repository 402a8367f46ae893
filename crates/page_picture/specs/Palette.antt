-- The colours of the points of a picture.
use Rattle.std.specs.Prelude.{ℕ, ◌-◌, Bool, ◌||◌, not, ◌==◌, List, [], ◌∷◌, if◌then◌else◌}
use Rattle.std.specs.List.{flat_map, range_with_len}

-- red, green and blue of a colour as it shines, 0 to 255 each (NTCIP 1203 v03, dmsColorScheme; the shares are own). A monochrome sign
-- has one colour besides black, which is drawn in amber
unfoldable pub shine : Bool → ℕ → List ℕ
shine classic colour =
    if colour == 0 then 40 ∷ 40 ∷ 40 ∷ []
    else (if (colour == 9) || not classic then 255 ∷ 176 ∷ 0 ∷ []
    else (if colour == 1 then 255 ∷ 32 ∷ 32 ∷ []
    else (if colour == 2 then 255 ∷ 240 ∷ 32 ∷ []
    else (if colour == 3 then 32 ∷ 224 ∷ 64 ∷ []
    else (if colour == 4 then 32 ∷ 224 ∷ 240 ∷ []
    else (if colour == 5 then 64 ∷ 96 ∷ 255 ∷ []
    else (if colour == 6 then 240 ∷ 64 ∷ 240 ∷ []
    else (if colour == 7 then 255 ∷ 255 ∷ 255 ∷ []
    else 255 ∷ 128 ∷ 16 ∷ []))))))))

-- red, green and blue between the dots (own)
abbrev pub between : List ℕ
between = 12 ∷ 12 ∷ 12 ∷ []

-- red, green and blue of a point by its number: 0 is between the dots, and the numbers from 1 on are those of the colours from 0 on (own)
unfoldable pub shares : Bool → ℕ → List ℕ
shares classic number = if number == 0 then between else shine classic (number - 1)

-- the palette: red, green and blue of the points with the numbers 0 to 15, of which those from 11 on stand for nothing (own)
unfoldable pub palette : Bool → List ℕ
palette classic = flat_map (shares classic) (range_with_len 0 16)
