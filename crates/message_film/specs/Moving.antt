-- What a text shows in time, and files in GIF that show it.
use Rattle.std.specs.Prelude.{◌≡◌, ℕ, ◌*◌, ◌≤◌, List, map, replicate, Some}
use Rattle.std.specs.List.{All, flat_map, range_with_len}
use Rattle.sign_font.specs.Sign.{SignData}
use Rattle.multi_meaning.specs.declared.times.Shown.{Shown}
use Rattle.multi_meaning.specs.Times.{shown}
use Rattle.page_picture.specs.Dots.{dots}
use Rattle.page_picture.specs.Palette.{palette}
use Rattle.page_picture.specs.Shown.{shown_colour_at}
use Rattle.gif.specs.Gif.{Picture}
use Rattle.gif.specs.Reader.{film_of}

-- the points of what is shown of a text, where a pixel has this many points side by side (own)
abbrev pub seen_points : ℕ → SignData → List ℕ → Shown → List ℕ
seen_points side sign text seen = dots side (shown_colour_at sign text seen) sign.width sign.height

-- the points of what a text shows in each of the first tenths of a second, at the clocks 0, 1 and so on (own)
unfoldable pub moving : ℕ → SignData → List ℕ → ℕ → List (List ℕ)
moving side sign text tenths = map (λ clock. seen_points side sign text (shown sign text clock)) (range_with_len 0 tenths)

-- what pictures show in each hundredth of a second, one after the other (own)
unfoldable pub played : List Picture → List (List ℕ)
played pictures = flat_map (λ picture. replicate picture.delay picture.pixels) pictures

-- points that are shown for a tenth of a second each, in each hundredth of one (own)
unfoldable pub in_tenths : List (List ℕ) → List (List ℕ)
in_tenths points = flat_map (λ one. replicate 10 one) points

-- a picture is shown for so long that viewers keep to its delay: those of less than 2 hundredths of a second they show for a tenth (own)
abbrev pub IsSeen : Picture → Type 0
IsSeen picture = 2 ≤ picture.delay

-- octets are a file in GIF of this size in points, with this palette, that shows these points in
-- each hundredth of a second, over and over, by pictures that are all seen (own)
abbrev pub Plays : ℕ → ℕ → List ℕ → List (List ℕ) → List ℕ → Type 0
Plays width height palette points octets =
    (pictures : List Picture) × (film_of octets ≡ Some (record { width = width; height = height; palette = palette; pictures = pictures }))
    × (played pictures ≡ points) × All IsSeen pictures

-- octets are a file in GIF that shows these points of a sign, for a tenth of a second each, over and over (own)
abbrev pub IsFilmOf : ℕ → SignData → List (List ℕ) → List ℕ → Type 0
IsFilmOf side sign points octets = Plays (side * sign.width) (side * sign.height) (palette sign.classic) (in_tenths points) octets
