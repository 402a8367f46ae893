-- A file that has begun, and what it means.
use Rattle.std.proofs.Common.{◌≡◌, ℕ, ◌+◌, ◌*◌, ◌≤◌, List, [], ◌∷◌, ◌++◌, length, Some, refl, sym, ap, ◌∙◌, subst, arith, append_assoc, append-nil, length-append}
use Rattle.std.specs.Prelude.{codes}
use Rattle.std.specs.List.{sum_by}
use Rattle.std.specs.Option.{unwrap_or}
use Rattle.std.proofs.lemmas.List.Sums.{sum_by_push}
use Rattle.gif.specs.Gif.{Picture, IsPicture, ArePictures, IsBegun, head}
use Rattle.gif.specs.Reader.{Film, film_of, film_so_far}
use Rattle.gif.specs.Count.{film_octets, picture_octets}
use Rattle.gif.specs.Size.{most_octets, most_of_picture}
use Rattle.gif.specs.internal.Writing.{IsFilm}
use Rattle.gif.proofs.FilmLemmas.{found_film}

are_more : (width height : ℕ) (pictures : List Picture) (middle : List ℕ) (delay : ℕ) (pixels piece : List ℕ) → ArePictures width height pictures middle → IsPicture width height delay pixels piece
    → ArePictures width height (pictures ++ (record { delay = delay; pixels = pixels }) ∷ []) (middle ++ piece)
are_more width height [] middle delay pixels piece are is = (piece, [], is, refl, ap (λ m. m ++ piece) are ∙ sym (append-nil piece))
are_more width height (picture ∷ pictures) middle delay pixels piece are is =
    (are.0, are.1 ++ piece, are.2, are_more width height pictures are.1 delay pixels piece are.3 is, ap (λ m. m ++ piece) are.4 ∙ append_assoc are.0 are.1 piece)

-- what a file means that has begun
pub so_far : (width height : ℕ) (palette : List ℕ) (pictures : List Picture) (octets : List ℕ) → length palette ≡ 48 → IsBegun width height palette pictures octets
    → film_so_far octets ≡ record { width = width; height = height; palette = palette; pictures = pictures }
unfolding film_so_far
so_far width height palette pictures octets colours begun =
    ap (λ film. unwrap_or film (record { width = 0; height = 0; palette = []; pictures = [] })) (found_film width height palette pictures octets colours begun)

-- a file with its last octet means what it meant before
pub ended : (width height : ℕ) (octets new : List ℕ) → IsFilm width height octets → new ≡ octets ++ 59 ∷ [] → film_of new ≡ Some (film_so_far octets)
ended width height octets new is ends =
    ap film_of ends ∙ found_film width height is.0 is.1 octets is.2 is.3 ∙ ap Some (sym (so_far width height is.0 is.1 octets is.2 is.3))

-- the size that a file means is that of its writer
pub sized : (width height : ℕ) (octets : List ℕ) → IsFilm width height octets → ((film_so_far octets).width ≡ width) × ((film_so_far octets).height ≡ height)
sized width height octets is =
    let means = so_far width height is.0 is.1 octets is.2 is.3 in
    (ap (λ (f : Film). f.width) means, ap (λ (f : Film). f.height) means)

-- a file that begins
pub begins : (width height : ℕ) (palette octets : List ℕ) → octets ≡ head width height palette → IsBegun width height palette [] octets
begins width height palette octets is = ([], refl, is ∙ sym (append-nil (head width height palette)))

head_count : (width height : ℕ) (palette : List ℕ) → length palette ≡ 48 → length (head width height palette) ≡ 80
unfolding head
head_count width height palette colours =
    let name = 33 ∷ 255 ∷ 11 ∷ codes "NETSCAPE2.0" in
    let all = length-append palette (name ++ 3 ∷ 1 ∷ 0 ∷ 0 ∷ 0 ∷ []) in
    let more : length (name ++ 3 ∷ 1 ∷ 0 ∷ 0 ∷ 0 ∷ []) ≡ 19 = refl in
    let assoc = ap length (append_assoc palette name (3 ∷ 1 ∷ 0 ∷ 0 ∷ 0 ∷ [])) in
    grind (arith, all, more, assoc, colours)

pub begins_small : (width height : ℕ) (palette octets : List ℕ) → length palette ≡ 48 → octets ≡ head width height palette → length octets ≤ most_octets (film_so_far octets)
begins_small width height palette octets colours is =
    let long = ap length is in
    let count = head_count width height palette colours in
    let most : 80 ≤ most_octets (film_so_far octets) = omega arith in
    omega (arith, long, count, most)

pub begins_exact : (width height : ℕ) (palette octets : List ℕ) → length palette ≡ 48 → octets ≡ head width height palette → length octets ≡ film_octets (film_so_far octets).pictures
unfolding film_octets
begins_exact width height palette octets colours is =
    let none : (film_so_far octets).pictures ≡ [] = ap (λ (f : Film). f.pictures) (so_far width height palette [] octets colours (begins width height palette octets is)) in
    ap length is ∙ head_count width height palette colours ∙ sym (ap (λ p. 80 + sum_by (λ (q : Picture). picture_octets q.pixels) p) none)

-- a file with one picture more
pub record IsPushed (width height : ℕ) (old : Film) (new : List ℕ) (picture : Picture) : Type 0 where
  pub film : IsFilm width height new
  pub pictures : (film_so_far new).pictures ≡ old.pictures ++ picture ∷ []
  pub size : ((film_so_far new).width ≡ old.width) × ((film_so_far new).height ≡ old.height)
  pub palette : (film_so_far new).palette ≡ old.palette

pub pushed : (width height : ℕ) (octets new piece : List ℕ) (delay : ℕ) (pixels : List ℕ) → IsFilm width height octets → IsPicture width height delay pixels piece → new ≡ octets ++ piece
    → IsPushed width height (film_so_far octets) new (record { delay = delay; pixels = pixels })
pushed width height octets new piece delay pixels is picture grew =
    let palette = is.0 in
    let pictures = is.1 in
    let more = pictures ++ (record { delay = delay; pixels = pixels }) ∷ [] in
    let begun : IsBegun width height palette more new = (
      is.3.0 ++ piece,
      are_more width height pictures is.3.0 delay pixels piece is.3.1 picture,
      grew ∙ ap (λ o. o ++ piece) is.3.2 ∙ append_assoc (head width height palette) is.3.0 piece,
    ) in
    let old_is = so_far width height palette pictures octets is.2 is.3 in
    let new_is = so_far width height palette more new is.2 begun in
    record {
      film = (palette, more, is.2, begun);
      pictures = ap (λ (f : Film). f.pictures) new_is ∙ ap (λ (f : Film). f.pictures ++ (record { delay = delay; pixels = pixels }) ∷ []) (sym old_is);
      size = (ap (λ (f : Film). f.width) new_is ∙ ap (λ (f : Film). f.width) (sym old_is), ap (λ (f : Film). f.height) new_is ∙ ap (λ (f : Film). f.height) (sym old_is));
      palette = ap (λ (f : Film). f.palette) new_is ∙ ap (λ (f : Film). f.palette) (sym old_is);
    }

more_pictures : (size count more : ℕ) → more ≡ count + 1 → more * most_of_picture size ≡ count * most_of_picture size + most_of_picture size
more_pictures size count more is = ap (λ n. n * most_of_picture size) is ∙ omega arith

-- and its size
pub pushed_small : (width height : ℕ) (octets new piece : List ℕ) (picture : Picture) → IsFilm width height octets → IsPushed width height (film_so_far octets) new picture → new ≡ octets ++ piece
    → length piece ≤ most_of_picture (width * height) → length octets ≤ most_octets (film_so_far octets) → length new ≤ most_octets (film_so_far new)
pushed_small width height octets new piece picture is more grew small old_small =
    let long = ap length grew ∙ length-append octets piece in
    let old = film_so_far octets in
    let old_size = sized width height octets is in
    let new_size = sized width height new more.film in
    let count = ap length more.pictures ∙ length-append old.pictures (picture ∷ []) in
    let points : old.width * old.height ≡ width * height = ap (λ w. w * old.height) old_size.0 ∙ ap (λ h. width * h) old_size.1 in
    let new_points : (film_so_far new).width * (film_so_far new).height ≡ width * height = ap (λ w. w * (film_so_far new).height) new_size.0 ∙ ap (λ h. width * h) new_size.1 in
    let old_small : length octets ≤ 80 + length old.pictures * most_of_picture (width * height) = subst (λ n. length octets ≤ 80 + length old.pictures * most_of_picture n) points old_small in
    let product = more_pictures (width * height) (length old.pictures) (length (film_so_far new).pictures) count in
    subst (λ n. length new ≤ 80 + length (film_so_far new).pictures * most_of_picture n) (sym new_points) (omega (arith, long, small, old_small, product))

pub pushed_exact : (width height : ℕ) (octets new piece : List ℕ) (delay : ℕ) (pixels : List ℕ) → IsPushed width height (film_so_far octets) new (record { delay = delay; pixels = pixels })
    → new ≡ octets ++ piece → length piece ≡ picture_octets pixels → length octets ≡ film_octets (film_so_far octets).pictures → length new ≡ film_octets (film_so_far new).pictures
unfolding film_octets
pushed_exact width height octets new piece delay pixels more grew exact old_exact =
    let long = ap length grew ∙ length-append octets piece in
    let pictures = (film_so_far octets).pictures in
    let all = ap (sum_by (λ (q : Picture). picture_octets q.pixels)) more.pictures ∙ sum_by_push (λ (q : Picture). picture_octets q.pixels) pictures (record { delay = delay; pixels = pixels }) in
    omega (arith, long, exact, old_exact, all)

-- points that fill the screen of a film fill that of its writer
pub whole : (width height : ℕ) (octets pixels : List ℕ) (film : Film) → IsFilm width height octets → film_so_far octets ≡ film → length pixels ≡ film.width * film.height
    → length pixels ≡ width * height
whole width height octets pixels film is view all =
    let size = sized width height octets is in
    all ∙ ap (λ (f : Film). f.width * f.height) (sym view) ∙ ap (λ w. w * (film_so_far octets).height) size.0 ∙ ap (λ h. width * h) size.1
