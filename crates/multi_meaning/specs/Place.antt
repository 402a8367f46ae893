-- The place of each character of an accepted string (NTCIP 1203 v03, MULTI tags 'jl' and 'jp').
use Rattle.std.specs.Prelude.{ℕ, ◌+◌, ◌-◌, ◌*◌, ◌/◌, ◌==◌, List, [], ◌∷◌, ◌++◌, take, length, slice_index_or, if◌then◌else◌}
use Rattle.std.specs.List.{count_by}
use Rattle.multi_tag.specs.Just.{line_number, page_number}
use Rattle.multi_meaning.specs.declared.place.Place.{Place}
use Rattle.multi_meaning.specs.Address.{Spot, group_of, lines_of, line_before, segment, is_break}
use Rattle.multi_meaning.specs.Line.{height_of, width_of, glyph_width}

-- where a part of a size begins within a length: left, top and full at the start, centre and middle (3) in the middle,
-- right and bottom (4) at the end (NTCIP 1203 v03, MULTI tags 'jl' and 'jp')
abbrev pub start : ℕ → ℕ → ℕ → ℕ
start just length size = if just == 3 then (length - size) / 2 else (if just == 4 then length - size else 0)

-- how far character j, counted from 0, of k moves right on a full line with some spare pixels; a lone character stays,
-- since 0 / 0 is 0 (NTCIP 1203 v03, MULTI tag 'jl'; how the spare pixels are rounded is own)
abbrev pub spread : ℕ → ℕ → ℕ → ℕ
spread j k spare = j * spare / (k - 1)

-- the place of a character, from the spots before it and all spots: in its segment after the characters before it, and on
-- the bottom of its line, which stands under the counted lines before (own)
unfoldable pub place_of : List Spot → List Spot → Spot → Place
place_of before all spot =
    let just = line_number spot.at.line_just in
    let within = spot.at.rectangle in
    let k = count_by is_break (group_of spot before) in
    let lines = lines_of (group_of spot all) in
    let part = segment just (slice_index_or lines k []) in
    let part_before = segment just (line_before before spot) in
    record {
      column = within.left + start just within.width (width_of part)
          + (width_of (part_before ++ spot ∷ []) - glyph_width spot)
          + (if just == 5 then spread (length part_before) (length part) (within.width - width_of part) else 0);
      row = within.top + start (page_number spot.at.page_just) within.height (height_of lines)
          + (height_of (take (k + 1) lines) - spot.at.font.height);
    }
