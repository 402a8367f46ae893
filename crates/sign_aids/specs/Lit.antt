-- The colour of the lit pixels of a sign of one colour, in its pictures.
use Rattle.std.specs.Prelude.{ℕ, ◌+◌, ◌*◌, ◌/◌, ◌%◌, List, [], ◌∷◌, ◌++◌, length, take, drop, if◌then◌else◌}
use Rattle.std.specs.List.{flat_map, range_with_len}
use Rattle.std.specs.Str.{bytes_eq}
use Rattle.std.specs.Int.{w32, to_be_bytes}
use Rattle.saved_octets.specs.Checksum.{crc32}
use Rattle.message_picture.specs.declared.view.View.{View}
use Rattle.message_picture.specs.declared.view.View.TheVariants.{Film, Gif, Png, Ppm}
use Rattle.sign_aids.specs.declared.lit.Lit.{Lit}
use Rattle.sign_aids.specs.declared.lit.Lit.TheVariants.{Amber, Green, Red, White}

-- red, green and blue of a lit pixel, as a picture of a sign has them that has the classic colours (own)
abbrev pub shares_of : Lit → List ℕ
shares_of Amber = 255 ∷ 176 ∷ 0 ∷ []
shares_of White = 255 ∷ 255 ∷ 255 ∷ []
shares_of Red = 255 ∷ 32 ∷ 32 ∷ []
shares_of Green = 32 ∷ 224 ∷ 64 ∷ []

-- a point in a colour, where it is amber (own)
abbrev pub lit_point : Lit → List ℕ → List ℕ
lit_point lit point = if bytes_eq point (shares_of Amber) then shares_of lit else point

-- the point of a file at an octet: red, green and blue (own)
abbrev pub point_at : List ℕ → ℕ → List ℕ
point_at file at = take 3 (drop at file)

-- a file with so many points in a colour, from this octet on, where they are amber (own)
unfoldable pub lit_points : Lit → ℕ → ℕ → List ℕ → List ℕ
lit_points lit from count file =
    take from file
    ++ flat_map (λ place. lit_point lit (point_at file (from + 3 * place))) (range_with_len 0 count)
    ++ drop (from + 3 * count) file

-- a file in PNG with the CRC-32 of its palette as it is: the kind of that chunk stands at octet 37, before 48 octets of colours, and the
-- CRC at octet 89 (PNG)
abbrev pub sealed : List ℕ → List ℕ
sealed file = take 89 file ++ to_be_bytes w32 (crc32 (take 52 (drop 37 file))) ++ drop 93 file

-- a picture in a colour in place of amber. The points of a file in PPM stand at its end, three octets each, and before them is text, in
-- which no octet is above 127. The colours of the points are the 16 of the palette, in GIF from octet 13 on, and in PNG from octet 41 on,
-- with a CRC behind them (own)
abbrev pub lit_file : Lit → View → List ℕ → List ℕ
lit_file lit (Ppm moment) file = lit_points lit (length file % 3) (length file / 3) file
lit_file lit (Gif moment) file = lit_points lit 13 16 file
lit_file lit (Png moment) file = sealed (lit_points lit 41 16 file)
lit_file lit (Film seconds) file = lit_points lit 13 16 file
