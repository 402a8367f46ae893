-- What a sign shows for a while, as one picture.
use Rattle.std.specs.Prelude.{◌≡◌, ℕ, zero, suc, ◌+◌, ◌*◌, ◌≤◌, List, [], ◌∷◌, ◌++◌, length, map}
use Rattle.std.specs.List.{All, AllByRecursion}
use Rattle.page_picture.specs.Dots.{dots, value_at}
use Rattle.gif.specs.Count.{film_octets}
use Rattle.gif.specs.Gif.{Picture}
use Rattle.message_film.specs.Moving.{played}

-- the points of colours (own)
abbrev pub points_of : ℕ → ℕ → ℕ → List ℕ → List ℕ
points_of side width height colours = dots side (value_at colours width) width height

-- colours are those of all pixels (own)
abbrev pub AreColours : ℕ → ℕ → List ℕ → Type 0
AreColours width height colours = All (λ colour. colour ≤ 9) colours × (length colours ≡ width * height)

-- colours that a sign shows for some tenths of a second (own)
pub record Look : Type 0 where
  pub colours : List ℕ
  pub tenths : ℕ

-- a look has the colours of all pixels, for at least a tenth of a second (own)
abbrev pub IsLook : ℕ → ℕ → Look → Type 0
IsLook width height look = (1 ≤ look.tenths) × AreColours width height look.colours

-- the picture of a look (own)
abbrev pub picture_of : ℕ → ℕ → ℕ → Look → Picture
picture_of side width height look = record { delay = 10 * look.tenths; pixels = points_of side width height look.colours }

-- the look that isn't written yet, if there is one (own)
abbrev pub pending : List ℕ → ℕ → List Look
pending colours zero = []
pending colours (suc tenths) = record { colours = colours; tenths = suc tenths } ∷ []

-- the next look has other colours, or this one lasts for as long as a picture can, 6,553 tenths of a second (own)
abbrev pub IsApart : Look → List Look → Type 0
IsApart look [] = Unit {0}
IsApart look (next ∷ looks) = look.colours ≡ next.colours → 6553 ≤ look.tenths

-- looks are joined: the same colours one after the other are one look (own)
abbrev pub AreJoined : List Look → Type 0
AreJoined [] = Unit {0}
AreJoined (look ∷ looks) = IsApart look looks × AreJoined looks

-- a file that shows these points in each hundredth of a second has this many octets, with one picture for each of joined looks (own)
pub record HasOctets (side width height : ℕ) (points : List (List ℕ)) (octets : ℕ) : Type 0 where
  pub looks : List Look
  pub each : AllByRecursion (IsLook width height) looks
  pub joined : AreJoined looks
  pub shown : played (map (picture_of side width height) looks) ≡ points
  pub count : octets ≡ film_octets (map (picture_of side width height) looks) + 1

-- the same of the file of the first of these points (own)
pub record FrontHasOctets (side width height : ℕ) (points : List (List ℕ)) (octets : ℕ) : Type 0 where
  pub first : List (List ℕ)
  pub rest : List (List ℕ)
  pub parts : points ≡ first ++ rest
  pub file : HasOctets side width height first octets
