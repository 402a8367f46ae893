-- A picture of a page in PPM.
use Rattle.std.specs.Prelude.{ℕ, ◌*◌, Bool, List, ◌++◌, codes, decimal}
use Rattle.std.specs.List.{flat_map}
use Rattle.page_picture.specs.Colours.{ColourData, colour_at}
use Rattle.page_picture.specs.Dots.{dots}
use Rattle.page_picture.specs.Palette.{shares}

-- a file in PPM says its kind, the points of a line, the lines, and the greatest share, and then has three octets for each point, from
-- the top and from the left (own)
unfoldable pub head_of : ℕ → ℕ → List ℕ
head_of width height = codes "P6\n" ++ decimal width ++ codes " " ++ decimal height ++ codes "\n255\n"

-- the picture of a page by the colours of its pixels, where a pixel has this many points side by side: red, green and blue of each of its
-- points by the palette (own)
unfoldable pub scaled_ppm : ℕ → Bool → ColourData → List ℕ
scaled_ppm side classic colours =
    head_of (side * colours.width) (side * colours.height)
    ++ flat_map (shares classic) (dots side (colour_at colours) colours.width colours.height)

-- the same with 8 by 8 points for a pixel (own)
abbrev pub ppm_of : Bool → ColourData → List ℕ
ppm_of classic colours = scaled_ppm 8 classic colours
