-- Worked examples of places on the sample sign, computed.
use Rattle.multi_meaning.proofs.Common.{◌≡◌, ℕ, List, [], ◌∷◌, map, refl, true, if◌then◌else◌, nat_eq, range_with_len, count_by, sum_by, reading, tag_of, sample, SignData, Words, meaning, spots, standing, place_of, offence_by, Accepted, Refused, verdict, verdict_on, in_plane, things, things_among, Page, shown, shown_at, shown_within, page_times, codes, read_items, read_item, places, Verdict, picture}
use Rattle.multi_meaning.specs.declared.times.Shown.{Shown}
use Rattle.multi_meaning.specs.declared.times.Shown.TheVariants.{Off}

unfoldable pub placed : SignData → List ℕ → List (ℕ × ℕ)
unfolding places place_of spots standing reading read_items read_item tag_of
placed sign octets = map (λ p. (p.column, p.row)) (places sign (map meaning (reading octets).items))

-- the cells of the characters of these strings are at these columns and rows
abbrev pub ArePlaced : SignData → List (List ℕ × List (ℕ × ℕ)) → Type 0
ArePlaced sign rows = map (λ row. placed sign row.0) rows ≡ map (λ row. row.1) rows

cells : ArePlaced sample (
    (codes "A", (4, 2) ∷ []) ∷  -- one character stands in the middle
    (codes "A[nl0]A", (4, 0) ∷ (4, 3) ∷ []) ∷  -- a gap of none puts lines together
    (codes "A[nl]A", (4, 0) ∷ (4, 4) ∷ []) ∷  -- two lines with the usual gap
    (codes "[fo2]A[fo1]A", (1, 1) ∷ (7, 3) ∷ []) ∷  -- two fonts stand on the bottom of their line
    (codes "[jl5]AAA", (0, 2) ∷ (4, 2) ∷ (9, 2) ∷ []) ∷  -- a full line is spread
    (codes "[jl2]I[jl3]AA[jl4]I", (0, 2) ∷ (2, 2) ∷ (6, 2) ∷ (11, 2) ∷ []) ∷  -- left centre and right
    (codes "A[sc4]A", (1, 2) ∷ (8, 2) ∷ []) ∷  -- spacing in force at the later one
    (codes "[jp2]A[jp4]A", (4, 0) ∷ (4, 4) ∷ []) ∷  -- top and bottom
    (codes "[tr1,1,3,3]A[tr10,5,3,3]A", (0, 0) ∷ (9, 4) ∷ []) ∷  -- two rectangles
    (codes "[tr1,1,3,3][np]A", (4, 2) ∷ []) ∷  -- a new page has the whole sign
    [])
unfolding placed
cells = refl

unfoldable pub judged : SignData → List ℕ → Verdict
unfolding verdict verdict_on offence_by spots standing reading read_items read_item tag_of
judged sign octets = verdict sign octets

-- each of these strings has the verdict beside it
abbrev pub AreJudged : SignData → List (List ℕ × Verdict) → Type 0
AreJudged sign rows = map (λ row. judged sign row.0) rows ≡ map (λ row. row.1) rows

verdicts : AreJudged sample (
    (codes "A", Accepted 1) ∷  -- one character fits
    (codes "AAA", Accepted 1) ∷  -- three characters fit
    (codes "AAAI", Refused 5 3) ∷  -- a fourth character is too wide
    (codes "AA AA", Refused 5 3) ∷  -- two words are too wide where lines aren't filled
    (codes "A[nl]A", Accepted 1) ∷  -- two lines fit
    (codes "A[nl]A[nl]A", Refused 5 10) ∷  -- a third line is too high
    (codes "[nl][nl][nl]", Refused 5 8) ∷  -- three empty lines are too high
    (codes "A[nl2]A", Refused 5 6) ∷  -- a gap of two is too high
    (codes "[[I]]", Accepted 1) ∷  -- doubled brackets have cells
    (codes "[[B", Refused 7 2) ∷  -- a character without a cell
    (codes "A]", Refused 3 1) ∷  -- a broken bracket
    (codes "[g1]", Refused 3 0) ∷  -- an unknown tag
    (codes "[nlx]", Refused 4 0) ∷  -- a value out of its form
    (codes "A[np]A[np]A", Refused 12 6) ∷  -- a third page is one too many
    (codes "[jl4]A[jl2]A", Refused 11 11) ∷  -- a segment goes back
    (codes "[jp4]A[jp2]A", Refused 11 11) ∷  -- a group goes back
    (codes "[jl2]A[jl3]AA", Refused 5 12) ∷  -- a centre reaches into the left
    (codes "[jl2]A[jl5]A", Refused 11 11) ∷  -- full beside another segment
    (codes "[fo2]A[fo1]A", Accepted 1) ∷  -- two fonts on a line
    (codes "[fo9]A", Refused 6 0) ∷  -- a font that is not there
    (codes "[fo1,0002]A", Refused 13 0) ∷  -- a font of another version
    (codes "[tr8,1,6,7]", Refused 4 0) ∷  -- a rectangle outside the sign
    (codes "[tr7,1,6,0]AA", Refused 5 12) ∷  -- a line wider than its rectangle
    (codes "[tr1,1,2,0]A", Refused 5 11) ∷  -- a rectangle of two columns is too narrow
    (codes "[jl4]AAA[jl2]A", Refused 11 13) ∷  -- conflict comes before size
    (codes "[jl4]A[jl2]B", Refused 7 11) ∷  -- a missing cell comes before conflict
    (codes "A[nl9]", Accepted 1) ∷  -- a last new line gives no gap
    (codes "[jl4]A[jl2][nl]", Accepted 1) ∷  -- line justification is not judged at a new line
    (codes "A[fo2][nl0][fo1]A", Accepted 1) ∷  -- a line of characters has no font of its new line
    (codes "[fo2][nl0][fo1]A", Refused 5 15) ∷  -- an empty line has the font of its new line
    [])
unfolding judged
verdicts = refl

-- the sample sign, with its lines filled by words
abbrev pub words : SignData
words = record sample { line_fill = Words }

-- each of these strings is accepted, with a page, and the cells of its characters are at these columns and rows
abbrev AreAccepted : List (List ℕ × List (ℕ × ℕ)) → Type 0
AreAccepted rows = (map (λ row. judged words row.0) rows ≡ map (λ row. Accepted 1) rows) × ArePlaced words rows

accepted : AreAccepted (
    (codes "AA AA", (2, 0) ∷ (6, 0) ∷ (2, 4) ∷ (6, 4) ∷ []) ∷  -- two words stand on two lines
    (codes "AAA A", (0, 0) ∷ (4, 0) ∷ (8, 0) ∷ (4, 4) ∷ []) ∷  -- three and one
    (codes "AAA  A", (0, 0) ∷ (4, 0) ∷ (8, 0) ∷ (3, 4) ∷ (6, 4) ∷ []) ∷  -- a second space stands on its line
    (codes "A A A", (1, 0) ∷ (5, 0) ∷ (8, 0) ∷ (4, 4) ∷ []) ∷  -- a space that fits stays
    (codes "[jl4]A AAA", (9, 0) ∷ (1, 4) ∷ (5, 4) ∷ (9, 4) ∷ []) ∷  -- right lines
    (codes "[jl5]AA AA", (0, 0) ∷ (9, 0) ∷ (0, 4) ∷ (9, 4) ∷ []) ∷  -- full lines
    (codes "[tr1,1,1,0] I", (0, 4) ∷ []) ∷  -- an empty line above
    (codes "AAA [nl]", (0, 0) ∷ (4, 0) ∷ (8, 0) ∷ []) ∷  -- a dropped space and an nl
    (codes "AA [jp2][jp3]AA", (2, 0) ∷ (6, 0) ∷ (2, 4) ∷ (6, 4) ∷ []) ∷  -- a group that changes back is one
    (codes "AAA[nl0]A A", (0, 0) ∷ (4, 0) ∷ (8, 0) ∷ (1, 3) ∷ (5, 3) ∷ (8, 3) ∷ []) ∷  -- an nl keeps its gap
    (codes "A[sc4] AA", (4, 0) ∷ (1, 4) ∷ (8, 4) ∷ []) ∷  -- the spacing of a dropped space goes with it
    (codes "AA  AA", (1, 0) ∷ (5, 0) ∷ (9, 0) ∷ (2, 4) ∷ (6, 4) ∷ []) ∷  -- a space before the dropped one stays
    (codes "[tr1,1,7,0]A A", (2, 0) ∷ (2, 4) ∷ []) ∷  -- a narrow rectangle
    (codes "[jl2]A[jl3] A[jl4] A", (0, 0) ∷ (3, 0) ∷ (6, 0) ∷ (9, 4) ∷ []) ∷  -- segments move with their word
    [])
unfolding judged placed
accepted = (refl, refl)

verdicts_where_lines_are_filled : AreJudged words (
    (codes "AAAA", Refused 5 3) ∷  -- no space to break at
    (codes "AA AA AA", Refused 5 6) ∷  -- three lines are too high
    (codes "[jl4]AA [jl2]AA", Refused 11 13) ∷  -- justification goes back between hard breaks
    (codes "AAA [nl]A", Refused 5 8) ∷  -- dropped space then line end
    (codes "AAA ", Accepted 1) ∷  -- dropped space alone
    (codes "AA[jl4] [jl2]AA", Refused 11 13) ∷  -- a dropped space counts in the order
    (codes "AAA [fo2][nl]", Refused 5 9) ∷  -- an empty line has the font of its nl
    (codes "AA [fo2]A", Refused 5 8) ∷  -- a higher font on the new line
    (codes "[tr1,1,1,0]  ", Accepted 1) ∷  -- two empty lines
    [])
unfolding judged
verdicts_where_lines_are_filled = refl

abbrev sample_classic : SignData
sample_classic = record sample { classic = true }

-- the rows of a sign from the top, with 35 `#` for a pixel that is in a picture, and 46 `.` for another
unfoldable rows : SignData → List ℕ → ℕ → ℕ → ℕ → List (List ℕ)
unfolding in_plane things_among things place_of spots standing reading read_items read_item tag_of
rows sign octets page phase colour =
    map (λ row. map (λ column. if picture sign octets page phase colour column row then 35 else 46) (range_with_len 0 sign.width)) (range_with_len 0 sign.height)

-- how many pixels are in a picture
unfoldable lit : SignData → List ℕ → ℕ → ℕ → ℕ → ℕ
unfolding rows
lit sign octets page phase colour = sum_by (λ row. count_by (λ c. nat_eq c 35) row) (rows sign octets page phase colour)

one_character : rows sample (codes "A") 0 0 1
    ≡ codes "............" ∷ codes "............" ∷ codes ".....#......" ∷ codes "....###....." ∷ codes "....#.#....." ∷ codes "............" ∷ codes "............" ∷ []
unfolding rows
one_character = refl

two_words_on_two_lines : rows words (codes "AA AA") 0 0 1
    ≡ codes "...#...#...." ∷ codes "..###.###..." ∷ codes "..#.#.#.#..." ∷ codes "............" ∷ codes "...#...#...." ∷ codes "..###.###..." ∷ codes "..#.#.#.#..." ∷ []
unfolding rows
two_words_on_two_lines = refl

-- on each of these signs a string lights so many pixels at these pages, phases and colours
abbrev AreLit : List (SignData × List ℕ × List (ℕ × ℕ × ℕ) × List ℕ) → Type 0
AreLit rows = map (λ row. map (λ p. lit row.0 row.1 p.0 p.1 p.2) row.2) rows ≡ map (λ row. row.3) rows

lights : AreLit (
    (sample, codes "[flt5o5]A[/fl]", (0, 0, 1) ∷ (0, 4, 1) ∷ (0, 5, 1) ∷ (0, 9, 1) ∷ (0, 10, 1) ∷ [], 6 ∷ 6 ∷ 0 ∷ 0 ∷ 6 ∷ []) ∷  -- flash on first
    (sample, codes "[flt3]A", (0, 7, 1) ∷ (0, 8, 1) ∷ [], 0 ∷ 6 ∷ []) ∷  -- an absent flash time is the default
    (sample, codes "[flo5t5]A", (0, 0, 1) ∷ (0, 5, 1) ∷ (0, 10, 1) ∷ [], 0 ∷ 6 ∷ 0 ∷ []) ∷  -- flash off first
    (sample, codes "[flt0o0]A", (0, 7, 1) ∷ [], 6 ∷ []) ∷  -- flash without times is lit
    (sample_classic, codes "[cf3]A[pb1]", (0, 0, 1) ∷ (0, 0, 3) ∷ [], 84 ∷ 0 ∷ []) ∷  -- a background covers what stands before it
    (sample_classic, codes "[pb1][cf3]A", (0, 0, 1) ∷ (0, 0, 3) ∷ [], 78 ∷ 6 ∷ []) ∷  -- a character covers the background
    (sample, codes "[cf3]A", (0, 0, 1) ∷ (0, 0, 3) ∷ [], 6 ∷ 0 ∷ []) ∷  -- a monochrome sign shows one colour
    (sample_classic, codes "A[pb2][np][cf3]A", (0, 0, 2) ∷ (1, 0, 2) ∷ [], 84 ∷ 78 ∷ []) ∷  -- a background stays in force on the next page
    [])
unfolding lit
lights = refl

unfoldable at_clock : List ℕ → ℕ → Shown
unfolding shown_at shown_within page_times standing reading read_items read_item tag_of
at_clock octets clock = shown sample octets clock

-- each of these strings shows these pages at these clocks
abbrev AreShown : List (List ℕ × List ℕ × List Shown) → Type 0
AreShown rows = map (λ row. map (at_clock row.0) row.1) rows ≡ map (λ row. row.2) rows

clocks : AreShown (
    (codes "[pt10o5]A[np]A", 9 ∷ 10 ∷ 15 ∷ 29 ∷ 30 ∷ [], Page 0 9 ∷ Off ∷ Page 1 0 ∷ Off ∷ Page 0 0 ∷ []) ∷  -- pages and their off times
    (codes "[pt0o0]A[np]A", 42 ∷ [], Page 0 42 ∷ []) ∷  -- a cycle of none shows page 0
    (codes "[pt0o5]A", 3 ∷ [], Page 0 3 ∷ []) ∷  -- one page is always shown
    (codes "[pt0o5]A[np]A", 0 ∷ [], Off ∷ []) ∷  -- an on time of none is skipped
    (codes "A[np]A[pt10]", 30 ∷ 40 ∷ [], Page 1 0 ∷ Page 0 0 ∷ []) ∷  -- times are those at the end of a page
    (codes "[pt10o5]A[pt20][np]A", 20 ∷ [], Page 1 0 ∷ []) ∷  -- an absent page time is the default
    [])
unfolding at_clock
clocks = refl
