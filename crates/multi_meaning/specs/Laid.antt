-- The spots of a string as they are laid out: each dropped space as the end of its line (own).
use Rattle.std.specs.Prelude.{ℕ, Bool, not, ◌||◌, ◌&&◌, List, [], ◌∷◌, ◌++◌, length, slice_index_or, Option, Some, None, if◌then◌else◌}
use Rattle.std.specs.List.{after_last}
use Rattle.std.specs.Option.{option_map}
use Rattle.multi_tag.specs.Just.{page_number}
use Rattle.sign_font.specs.declared.parts.LineFill.{LineFill}
use Rattle.sign_font.specs.declared.parts.LineFill.TheVariants.{Off, Words}
use Rattle.multi_meaning.specs.Address.{Spot, Standing, is_glyph, is_break, area_of, in_group, group_of, lines_of, spot_at, spots, standing}
use Rattle.multi_meaning.specs.Fit.{fit, line_fits}
use Rattle.multi_meaning.specs.Line.{height_of, given_gap}
use Rattle.multi_meaning.specs.Words.{each_after}
use Rattle.multi_meaning.specs.Filling.{filled}
use Rattle.multi_tag.specs.declared.tag.Tag.TheVariants.{NewLine}
use Rattle.sign_font.specs.Sign.{SignData}
use Rattle.multi_meaning.specs.Meaning.{Meaning, Does}

-- the width to which lines are filled, if they are (own)
abbrev pub fill_at : LineFill → Standing → Option ℕ
fill_at Off at = None
fill_at Words at = Some at.rectangle.width

-- a group of an area as it is laid out (own)
abbrev pub laid_group : Option ℕ → ℕ → List Spot → List Spot
laid_group fill just area = filled fill (in_group just area)

-- an area fits a height: its top, middle and bottom groups stand apart (NTCIP 1203 v03, MULTI tag 'jp'; how parts fit is own)
abbrev pub laid_fits : Option ℕ → ℕ → List Spot → Bool
laid_fits fill height area =
    fit (height_of (lines_of (laid_group fill 2 area))) (height_of (lines_of (laid_group fill 3 area)))
    (height_of (lines_of (laid_group fill 4 area))) height

-- textTooBig: the line of a character doesn't fit, or the area no longer does (NTCIP 1203 v03, dmsMultiSyntaxError)
abbrev pub too_big : LineFill → List Spot → Spot → Bool
too_big setting before spot =
    let area = area_of spot before ++ spot ∷ [] in
    let fill = fill_at setting spot.at in
    (is_glyph spot && not (line_fits spot.at.rectangle.width (after_last is_break (laid_group fill (page_number spot.at.page_just) area))))
    || not (laid_fits fill spot.at.rectangle.height area)

-- a spot as it stands in its group among all spots (own)
abbrev pub laid_spot : LineFill → List Spot → List Spot → Spot → Spot
laid_spot setting all before spot =
    if is_glyph spot then slice_index_or (filled (fill_at setting spot.at) (group_of spot all)) (length (group_of spot before)) spot else
    spot

-- an item of which this is laid: what ends a line is an `nl`, and all else is the item (own)
abbrev pub laid_of : Meaning → Option Spot → Meaning
laid_of item None = item
laid_of item (Some spot) = if is_break spot then Does (NewLine (given_gap spot)) else item

-- an item as it is laid out among all (own)
abbrev pub laid_item : LineFill → SignData → List Meaning → List Meaning → Meaning → Meaning
laid_item setting sign all before item =
    laid_of item (option_map (laid_spot setting (spots sign all) (spots sign before)) (spot_at sign.defaults (standing sign before) item))

-- some items from the first on, as they are laid out among all (own)
abbrev pub laid_items : LineFill → SignData → List Meaning → List Meaning → List Meaning
laid_items setting sign all some = each_after (laid_item setting sign all) some

-- the items of a string as a sign lays them out (own)
abbrev pub laid_out : SignData → List Meaning → List Meaning
laid_out sign items = laid_items sign.line_fill sign items items
