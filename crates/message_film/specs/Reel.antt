-- A film that has begun.
use Rattle.std.specs.Prelude.{◌≡◌, ℕ, ◌+◌, ◌*◌, ◌<◌, ◌≤◌, List, [], ◌++◌, map, replicate}
use Rattle.std.specs.List.{AllByRecursion}
use Rattle.gif.specs.Reader.{Film}
use Rattle.gif.specs.Size.{most_of_picture}
use Rattle.message_film.specs.Looks.{AreColours, AreJoined, IsLook, Look, pending, picture_of, points_of}
use Rattle.message_film.specs.Moving.{played}

-- how many points side by side a pixel has, the size of a sign in pixels, the palette, the points that are shown in each
-- hundredth of a second so far, and in how many tenths of a second of these the picture is shown that isn't written yet (own)
pub record ReelData : Type 0 where
  pub side : ℕ
  pub width : ℕ
  pub height : ℕ
  pub palette : List ℕ
  pub points : List (List ℕ)
  pub left : ℕ

-- what is shown so far: what is written, and then the picture that isn't yet, for some tenths of a second (own)
abbrev pub reel_of : ℕ → ℕ → ℕ → Film → List ℕ → ℕ → ReelData
reel_of side width height film colours tenths = record {
  side = side;
  width = width;
  height = height;
  palette = film.palette;
  points = played film.pictures ++ replicate (10 * tenths) (points_of side width height colours);
  left = tenths;
}

-- a film that has begun is sound: its file has the size of the points, and the picture that isn't written yet is whole and shown for at
-- most 6,553 tenths of a second; it and those that are written are joined looks, and while there is none, none is written (own)
pub record IsSoundReel (side width height : ℕ) (film : Film) (colours : List ℕ) (tenths : ℕ) : Type 0 where
  pub size : (film.width ≡ side * width) × (film.height ≡ side * height)
  pub few : tenths ≤ 6553
  pub whole : 0 < tenths → AreColours width height colours
  pub looks : List Look
  pub made : film.pictures ≡ map (picture_of side width height) looks
  pub each : AllByRecursion (IsLook width height) looks
  pub joined : AreJoined (looks ++ pending colours tenths)
  pub first : tenths ≡ 0 → looks ≡ []

-- the most octets of a film before its last one: 80, and two for each point and 32 in each tenth of a second (own)
abbrev pub most_of_film : ℕ → ℕ → ℕ → ℕ → ℕ
most_of_film side width height tenths = 80 + tenths * most_of_picture (side * width * (side * height))
