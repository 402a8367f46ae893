-- Files in GIF (GIF89a) of the kind that is written here: 16 colours for all pictures, each of which fills the screen, over and over.
use Rattle.std.specs.Prelude.{◌≡◌, ℕ, ◌*◌, ◌/◌, ◌%◌, ◌≤◌, List, [], ◌∷◌, ◌++◌, length, codes, Some}
use Rattle.std.specs.List.{All, flat_map}
use Rattle.gif.specs.Lzw.{pixels_of}

-- a picture that is shown for some hundredths of a second: the colours of its points by their numbers in the palette, row by row from the
-- top, and each row from the left (GIF89a)
pub record Picture : Type 0 where
  pub delay : ℕ
  pub pixels : List ℕ

-- a number in two octets, the lower one first (GIF89a, unsigned integers)
abbrev pub word : ℕ → List ℕ
word number = number % 256 ∷ number / 256 ∷ []

-- what a file begins with: its signature and version, the size in points and that 16 colours follow, the colours, each by its red, green
-- and blue, and that the pictures are shown over and over (GIF89a, header, logical screen descriptor, global color table and application
-- extension, with the application NETSCAPE2.0)
unfoldable pub head : ℕ → ℕ → List ℕ → List ℕ
head width height palette =
    codes "GIF89a" ++ word width ++ word height ++ 179 ∷ 0 ∷ 0 ∷ palette
    ++ 33 ∷ 255 ∷ 11 ∷ codes "NETSCAPE2.0" ++ 3 ∷ 1 ∷ 0 ∷ 0 ∷ 0 ∷ []

-- how long a picture is shown, and that it stays when the next one is drawn (GIF89a, graphic control extension)
abbrev pub control : ℕ → List ℕ
control delay = 33 ∷ 249 ∷ 4 ∷ 4 ∷ word delay ++ 0 ∷ 0 ∷ []

-- a picture of the whole screen, with no colours of its own, row after row (GIF89a, image descriptor)
abbrev pub descriptor : ℕ → ℕ → List ℕ
descriptor width height = 44 ∷ word 0 ++ word 0 ++ word width ++ word height ++ 0 ∷ []

-- what a picture begins with, up to the size of its codes (GIF89a, table based image data)
unfoldable pub picture_head : ℕ → ℕ → ℕ → List ℕ
picture_head width height delay = control delay ++ descriptor width height ++ 4 ∷ []

-- data in blocks, each after its length, and an empty one at the end (GIF89a, data sub-blocks and block terminator)
unfoldable pub blocks : List (List ℕ) → List ℕ
blocks parts = flat_map (λ part. length part ∷ part) parts ++ 0 ∷ []

-- the length of a block (GIF89a, data sub-blocks)
abbrev pub IsPart : List ℕ → Type 0
IsPart part = (1 ≤ length part) × (length part ≤ 255)

-- octets are data in blocks (GIF89a, data sub-blocks)
abbrev pub IsBlocks : List ℕ → List ℕ → Type 0
IsBlocks content octets = (parts : List (List ℕ)) × All IsPart parts × (flat_map (λ part. part) parts ≡ content) × (octets ≡ blocks parts)

-- octets are a picture: its data means its points (GIF89a, graphic-rendering block)
abbrev pub IsPicture : ℕ → ℕ → ℕ → List ℕ → List ℕ → Type 0
IsPicture width height delay pixels octets =
    (content : List ℕ) × (packed : List ℕ) × (pixels_of content ≡ Some pixels) × (length pixels ≡ width * height) × IsBlocks content packed
    × (octets ≡ picture_head width height delay ++ packed)

-- octets are pictures, one after the other (GIF89a, data stream)
abbrev pub ArePictures : ℕ → ℕ → List Picture → List ℕ → Type 0
ArePictures width height [] octets = octets ≡ []
ArePictures width height (picture ∷ pictures) octets =
    (first : List ℕ) × (rest : List ℕ) × IsPicture width height picture.delay picture.pixels first × ArePictures width height pictures rest
    × (octets ≡ first ++ rest)

-- a list grew by octets of a kind (own)
abbrev pub GrewBy : (List ℕ → Type 0) → List ℕ → List ℕ → Type 0
GrewBy Kind before after = (piece : List ℕ) × Kind piece × (after ≡ before ++ piece)

-- octets are a file of these pictures, up to its end (GIF89a, data stream)
abbrev pub IsBegun : ℕ → ℕ → List ℕ → List Picture → List ℕ → Type 0
IsBegun width height palette pictures octets =
    (middle : List ℕ) × ArePictures width height pictures middle × (octets ≡ head width height palette ++ middle)
