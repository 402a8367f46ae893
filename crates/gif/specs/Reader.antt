-- The reader of files in GIF (GIF89a, data stream) of the kind that is written here: 16 colours for all pictures, each of which fills the
-- screen. All that follows restates the grammar in specs/Gif, from the first octet on.
use Rattle.std.specs.Prelude.{ℕ, zero, suc, ◌+◌, ◌*◌, Bool, false, ◌==◌, nat_le, List, [], ◌∷◌, ◌++◌, length, take, drop, slice_index, if◌then◌else◌, Option, Some, None}
use Rattle.std.specs.Option.{option_and_then, unwrap_or}
use Rattle.gif.specs.Lzw.{pixels_of}
use Rattle.gif.specs.Gif.{Picture, head, picture_head}

-- what a file means: a size in points, red, green and blue of 16 colours, and pictures that follow each other for ever (GIF89a)
pub record Film : Type 0 where
  pub width : ℕ
  pub height : ℕ
  pub palette : List ℕ
  pub pictures : List Picture

-- what a reader finds next, if it has found what comes before (GIF89a)
abbrev pub and_then : {T U : Type 0} → Option T → (T → Option U) → Option U
and_then found f = option_and_then f found

-- what follows these octets, if the others begin with them (GIF89a)
unfoldable pub behind : List ℕ → List ℕ → Option (List ℕ)
behind [] octets = Some octets
behind (first ∷ rest) [] = None
behind (first ∷ rest) (octet ∷ octets) = if first == octet then behind rest octets else None

-- data, and what follows it (GIF89a)
pub record Found : Type 0 where
  pub content : List ℕ
  pub more : List ℕ

-- data in blocks, each after its length, up to an empty one, in at most this many blocks (GIF89a)
unfoldable pub found_in : ℕ → List ℕ → Option Found
found_in zero octets = None
found_in (suc most) [] = None
found_in (suc most) (count ∷ octets) =
    if count == 0 then Some (record { content = []; more = octets })
    else (if nat_le count (length octets)
    then and_then (found_in most (drop count octets))
    (λ found. Some (record { content = take count octets ++ found.content; more = found.more }))
    else None)

-- a number of two octets at a place, the lower one first (GIF89a)
abbrev pub word_at : List ℕ → ℕ → ℕ
word_at octets place = slice_index octets place + 256 * slice_index octets (place + 1)

-- the octets are the end of a file (GIF89a)
abbrev pub is_end : List ℕ → Bool
is_end [] = false
is_end (octet ∷ []) = octet == 59
is_end (octet ∷ other ∷ octets) = false

-- the points of a picture, if they are as many as the screen has (GIF89a)
abbrev pub whole : ℕ → List ℕ → Option (List ℕ)
whole size pixels = if length pixels == size then Some pixels else None

-- at most this many pictures, up to the end of a file (GIF89a)
unfoldable pub pictures_in : ℕ → ℕ → ℕ → List ℕ → Option (List Picture)
pictures_in zero width height octets = None
pictures_in (suc most) width height octets =
    if is_end octets then Some []
    else and_then (behind (picture_head width height (word_at octets 4)) octets) (λ rest.
    and_then (found_in (length rest) rest) (λ found.
    and_then (pixels_of found.content) (λ pixels.
    and_then (whole (width * height) pixels) (λ points.
    and_then (pictures_in most width height found.more) (λ pictures.
    Some (record { delay = word_at octets 4; pixels = points } ∷ pictures))))))

-- what a file means, or none if it is no such file (GIF89a)
unfoldable pub film_of : List ℕ → Option Film
film_of octets =
    and_then (behind (head (word_at octets 6) (word_at octets 8) (take 48 (drop 13 octets))) octets) (λ rest.
    and_then (pictures_in (length rest) (word_at octets 6) (word_at octets 8) rest) (λ pictures.
    Some (record { width = word_at octets 6; height = word_at octets 8; palette = take 48 (drop 13 octets); pictures = pictures })))

-- what a file means that has begun, without its last octet (own)
unfoldable pub film_so_far : List ℕ → Film
film_so_far octets = unwrap_or (film_of (octets ++ 59 ∷ [])) (record { width = 0; height = 0; palette = []; pictures = [] })
