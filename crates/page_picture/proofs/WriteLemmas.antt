-- The colours of a page, written one after the other from the last on, and the list that they make.
use Rattle.std.proofs.Common.{◌≡◌, ℕ, zero, suc, ◌+◌, ◌-◌, ◌*◌, ◌<◌, ◌≤◌, min, Bool, false, ◌==◌, List, [], ◌∷◌, ◌++◌, length, take, drop, get_or, replicate, refl, sym, ap, subst, ◌∙◌, arith, append_assoc, append-nil, if◌then◌else◌, inl, inr}
use Rattle.std.proofs.Math.ListN.{get_or-append}
use Rattle.std.proofs.lemmas.Bool.{cases_Bool, ne_eqb}
use Rattle.std.proofs.lemmas.Slice.{drop-append-drop}
use Rattle.std.proofs.lemmas.List.{drop_all, get_or-replicate, length-append, length-replicate, take-append-drop, take_all, take_at, take_more}
use Rattle.std.specs.List.{find, range_with_len}
use Rattle.std.specs.Option.{option_map_or}
use Rattle.multi_token.specs.Counted.{Counted, RisesBetween}
use Rattle.multi_token.proofs.StepLemmas.{rises_more, rises_then}
use Rattle.sign_font.specs.Sign.{SignData}
use Rattle.multi_meaning.specs.Picture.{in_plane, picture}
use Rattle.multi_meaning.specs.declared.times.Shown.TheVariants.{Page}
use Rattle.page_picture.specs.Shown.{colours}
use Rattle.page_picture.specs.Colours.{page_colour, row_values, values}
use Rattle.page_picture.specs.Dots.{value_at}
use Rattle.page_picture.specs.Painted.{HaveValues, IsPainted}
use Rattle.page_picture.proofs.ColourLemmas.{row_more, values_more, values_none}
use Rattle.page_picture.proofs.CountLemmas.{row_inside}

-- COLOURS

-- the first of some successive colours that a pixel has, and else 0
abbrev pub first_of : (ℕ → Bool) → ℕ → ℕ → ℕ
first_of has colour count = option_map_or (λ c. c) (find has (range_with_len colour count)) 0

-- one colour more, before the others
first_more : (has : ℕ → Bool) (colour next count more : ℕ) → next ≡ colour + 1 → more ≡ suc count
    → first_of has colour more ≡ (if has colour then colour else first_of has next count)
first_more has colour next count more is longer = ap (first_of has colour) longer ∙ elim (cases_Bool (has colour)) [
  | inl on ↦ rw on refl
  | inr off ↦ rw (off, is) refl
]

-- the pixels have their colours among the last ones
abbrev pub HaveLast : ℕ → ℕ → (ℕ → ℕ → ℕ → Bool) → ℕ → List ℕ → Type 0
HaveLast width height has done octets = HaveValues width height (λ column row. first_of (λ c. has c column row) (10 - done) done) octets

pub last_more : (width height : ℕ) (has : ℕ → ℕ → ℕ → Bool) (lit : ℕ → ℕ → Bool) (done colour : ℕ) (old new : List ℕ) → done < 9 → colour ≡ 9 - done
    → ((column row : ℕ) → column < width → row < height → lit column row ≡ has colour column row)
    → HaveLast width height has done old → IsPainted width height colour lit old new → HaveLast width height has (done + 1) new
last_more width height has lit done colour old new few is shows have painted column row left above =
    let from : 10 - (done + 1) ≡ colour = omega (arith, is, few) in
    let next : 10 - done ≡ colour + 1 = omega (arith, is, few) in
    let longer : done + 1 ≡ suc done = omega arith in
    painted.pixels column row left above
    ∙ ap (λ b. if b then colour else value_at old width column row) (shows column row left above)
    ∙ ap (λ n. if has colour column row then colour else n) (have column row left above)
    ∙ sym (first_more (λ c. has c column row) colour (10 - done) done (done + 1) next longer)
    ∙ ap (λ n. first_of (λ c. has c column row) n (done + 1)) (sym from)

-- STEPS

-- some steps more
pub rises_again : (old now new : Counted) (limit done : ℕ) → RisesBetween old now 0 (done * limit) → RisesBetween now new 0 limit
    → RisesBetween old new 0 ((done + 1) * limit)
rises_again old now new limit done first second =
    let most : done * limit + limit ≤ (done + 1) * limit = omega arith in
    rises_more old new 0 (done * limit + limit) ((done + 1) * limit) most (rises_then old now new 0 (done * limit) 0 limit first second)

-- LISTS

row_taken : (at : ℕ → ℕ → ℕ) (row start n : ℕ) (l : List ℕ) → start + n ≤ length l → ((k : ℕ) → k < n → get_or l (start + k) 0 ≡ at k row)
    → take (start + n) l ≡ take start l ++ row_values at n row
row_taken at row start zero l room each =
    let none : start + 0 ≡ start = omega arith in
    ap (λ k. take k l) none ∙ sym (append-nil (take start l))
row_taken at row start (suc n) l room each =
    let next : start + suc n ≡ start + n + 1 = omega arith in
    let more : suc n ≡ n + 1 = omega arith in
    ap (λ k. take k l) next
    ∙ take_more l (start + n) 0 (omega (arith, room))
    ∙ ap (λ x. take (start + n) l ++ x ∷ []) (each n (omega arith))
    ∙ ap (λ x. x ++ at n row ∷ []) (row_taken at row start n l (omega (arith, room)) (λ k below. each k (omega (arith, below))))
    ∙ append_assoc (take start l) (row_values at n row) (at n row ∷ [])
    ∙ ap (λ x. take start l ++ x) (sym (row_more at row n))
    ∙ ap (λ k. take start l ++ row_values at k row) (sym more)

rows_taken : (at : ℕ → ℕ → ℕ) (width height : ℕ) (l : List ℕ) → width * height ≤ length l → HaveValues width height at l → take (width * height) l ≡ values at width height
rows_taken at width zero l room have =
    let none : width * 0 ≡ 0 = omega arith in
    ap (λ k. take k l) none ∙ sym (values_none at width)
rows_taken at width (suc row) l room have =
    let next : width * suc row ≡ width * row + width = omega arith in
    let more : suc row ≡ row + 1 = omega arith in
    ap (λ k. take k l) next
    ∙ row_taken at row (width * row) width l (omega (arith, room, next)) (λ k below. have k row below (omega arith))
    ∙ ap (λ x. x ++ row_values at width row) (rows_taken at width row l (omega (arith, room, next)) (λ column r left above. have column r left (omega (arith, above))))
    ∙ sym (values_more at width row)
    ∙ ap (values at width) (sym more)

-- octets that have the values of all pixels are these values and what stands after them
pub all_written : (at : ℕ → ℕ → ℕ) (width height : ℕ) (old new : List ℕ) → width * height ≤ length new → HaveValues width height at new
    → drop (width * height) new ≡ drop (width * height) old → new ≡ values at width height ++ drop (width * height) old
all_written at width height old new room have behind =
    sym (take-append-drop (width * height) new)
    ∙ ap (λ l. l ++ drop (width * height) new) (rows_taken at width height new room have)
    ∙ ap (λ l. values at width height ++ l) behind

-- octets that begin with 0 for each pixel
pub black : (width height : ℕ) (rest : List ℕ) → HaveValues width height (λ column row. 0) (replicate (width * height) 0 ++ rest)
black width height rest column row left above =
    let inside = row_inside width height row above in
    let place = width * row + column in
    let within : place < width * height = omega (arith, inside, left) in
    get_or-append (replicate (width * height) 0) rest 0 place (rw (length-replicate {A = ℕ} (width * height) 0) within)
    ∙ get_or-replicate {A = ℕ} (width * height) place 0 0 within

-- PAGES

-- what is painted by a plane of a page's size is painted on the page
pub on_page : (width height wide high colour : ℕ) (lit : ℕ → ℕ → Bool) (old new : List ℕ) → wide ≡ width → high ≡ height
    → IsPainted wide high colour lit old new → IsPainted width height colour lit old new
on_page width height wide high colour lit old new same_width same_height is =
    subst (λ w. IsPainted w height colour lit old new) same_width (subst (λ h. IsPainted wide h colour lit old new) same_height is)

-- what is painted on a page of a sign is painted on that of the same one
pub painted_on : (sign other : SignData) (text letters : List ℕ) (page phase colour : ℕ) (old new : List ℕ) → other ≡ sign → letters ≡ text
    → IsPainted other.width other.height colour (picture other letters page phase colour) old new
    → IsPainted sign.width sign.height colour (picture sign text page phase colour) old new
painted_on sign other text letters page phase colour old new same_sign same_text is =
    subst (λ (s : SignData). IsPainted s.width s.height colour (picture s text page phase colour) old new) same_sign
    (subst (λ l. IsPainted other.width other.height colour (picture other l page phase colour) old new) same_text is)

-- one colour more of a page
pub page_more : (sign : SignData) (text : List ℕ) (page phase done colour : ℕ) (old new : List ℕ) → done < 9 → colour ≡ 9 - done
    → HaveLast sign.width sign.height (picture sign text page phase) done old
    → IsPainted sign.width sign.height colour (picture sign text page phase colour) old new
    → HaveLast sign.width sign.height (picture sign text page phase) (done + 1) new
page_more sign text page phase done colour old new few is =
    last_more sign.width sign.height (picture sign text page phase) (picture sign text page phase colour) done colour old new few is (λ column row left above. refl)

-- a monochrome sign shows no colour beyond the first
one_colour : (classic : Bool) (value colour : ℕ) → classic ≡ false → 1 < colour → ((if classic then value else min value 1) == colour) ≡ false
one_colour classic value colour plain more = rw plain (ne_eqb (min value 1) colour (λ e. absurd (omega (arith, e, more))))

pub monochrome_dark : (sign : SignData) (text : List ℕ) (page phase colour column row : ℕ) → sign.classic ≡ false → 1 < colour
    → picture sign text page phase colour column row ≡ false
unfolding in_plane
monochrome_dark sign text page phase colour column row plain more = one_colour sign.classic _ colour plain more

-- and the steps that it takes over the plane
pub drawn_again : (old now new limit done : ℕ) → now ≤ old + done * limit → new ≤ now + limit → new ≤ old + (done + 1) * limit
drawn_again old now new limit done first second = let more : done * limit + limit ≡ (done + 1) * limit = omega arith in omega (arith, first, second, more)

-- a page that is written where all was black
pub shown_written : (sign : SignData) (text : List ℕ) (page phase : ℕ) (old black new : List ℕ) → sign.width * sign.height ≤ length old
    → black ≡ replicate (sign.width * sign.height) 0 ++ drop (sign.width * sign.height) old
    → HaveValues sign.width sign.height (page_colour sign text page phase) new
    → drop (sign.width * sign.height) new ≡ drop (sign.width * sign.height) black → length new ≡ length black
    → new ≡ colours sign text (Page page phase) ++ drop (sign.width * sign.height) old
shown_written sign text page phase old black new room first have behind kept =
    let size = sign.width * sign.height in
    let zeros = length-replicate {A = ℕ} size 0 in
    let rest = drop-append-drop size old (replicate size 0) size (omega arith) zeros in
    let both = length-append {A = ℕ} (replicate size 0) (drop size old) in
    let all = ap length first in
    all_written (page_colour sign text page phase) sign.width sign.height old new (omega (arith, kept, all, both, zeros)) have (behind ∙ ap (drop size) first ∙ rest)

-- a list of as many octets as pixels, when all are written
pub vec_written : (size count : ℕ) (old new all : List ℕ) → count ≡ size → length old ≡ size → length all ≡ size → new ≡ all ++ drop size old
    → take count (new ++ drop (length new) old) ≡ all
vec_written size count old new all few whole long is =
    let none : length old ≤ size = omega (arith, whole) in
    let alone = is ∙ ap (λ l. all ++ l) (drop_all size old none) ∙ append-nil all in
    let enough : length all ≡ count = omega (arith, few, long) in
    ap (λ l. take count (l ++ drop (length new) old)) alone ∙ take_at all (drop (length new) old) count enough

-- a list of all values has these values
pub all_values : (width height : ℕ) (l : List ℕ) → length l ≡ width * height → l ≡ values (value_at l width) width height
all_values width height l whole =
    let most : length l ≤ width * height = omega (arith, whole) in
    let least : width * height ≤ length l = omega (arith, whole) in
    sym (take_all (width * height) l most) ∙ rows_taken (value_at l width) width height l least (λ column row left above. refl)
