-- What a reader finds in a file.
use Rattle.std.proofs.Common.{◌≡◌, ℕ, zero, suc, ◌*◌, ◌<◌, ◌≤◌, true, false, ◌==◌, nat_le, List, [], ◌∷◌, ◌++◌, length, take, drop, Some, refl, sym, ap, ◌∙◌, arith, append_assoc, length-append}
use Rattle.std.specs.Prelude.{codes}
use Rattle.std.proofs.lemmas.Bool.{eq-eqb, ne_eqb, le-leb}
use Rattle.std.proofs.Math.Seq.{take-append_seam, drop-append_seam}
use Rattle.std.specs.List.{All, flat_map}
use Rattle.gif.specs.Lzw.{pixels_of}
use Rattle.gif.specs.Gif.{Picture, IsPart, ArePictures, IsBegun, blocks, head, picture_head}
use Rattle.gif.specs.Reader.{behind, found_in, word_at, is_end, pictures_in, film_of}

pub behind_append : (first rest : List ℕ) → behind first (first ++ rest) ≡ Some rest
unfolding behind
behind_append [] rest = refl
behind_append (x ∷ first) rest =
    let same : (x == x) ≡ true = eq-eqb x x refl in
    rw same (behind_append first rest)

-- BLOCKS

blocks_nil : (rest : List ℕ) → blocks [] ++ rest ≡ 0 ∷ rest
unfolding blocks
blocks_nil rest = refl

blocks_cons : (part : List ℕ) (parts : List (List ℕ)) (rest : List ℕ) → blocks (part ∷ parts) ++ rest ≡ length part ∷ (part ++ (blocks parts ++ rest))
unfolding blocks
blocks_cons part parts rest =
    let others = flat_map (λ p. length p ∷ p) parts in
    ap (λ l. length part ∷ (l ++ rest)) (append_assoc part others (0 ∷ []))
    ∙ ap (λ l. length part ∷ l) (append_assoc part (others ++ 0 ∷ []) rest)

found_step : (most count : ℕ) (octets content more : List ℕ) → 1 ≤ count → count ≤ length octets
    → found_in most (drop count octets) ≡ Some (record { content = content; more = more })
    → found_in (suc most) (count ∷ octets) ≡ Some (record { content = take count octets ++ content; more = more })
unfolding found_in
found_step most count octets content more least fits rest =
    let some : (count == 0) ≡ false = ne_eqb count 0 (λ e. omega (arith, e, least)) in
    let all : nat_le count (length octets) ≡ true = le-leb count (length octets) fits in
    rw (some, all, rest) refl

found_none : (most : ℕ) (octets : List ℕ) → found_in (suc most) (0 ∷ octets) ≡ Some (record { content = []; more = octets })
unfolding found_in
found_none most octets = refl

pub found_blocks : (most : ℕ) (parts : List (List ℕ)) (rest : List ℕ) → All IsPart parts → length parts < most
    → found_in most (blocks parts ++ rest) ≡ Some (record { content = flat_map (λ part. part) parts; more = rest })
found_blocks zero parts rest sized few = absurd (omega (arith, few))
found_blocks (suc most) [] rest sized few = ap (found_in (suc most)) (blocks_nil rest) ∙ found_none most rest
found_blocks (suc most) (part ∷ parts) rest sized few =
    let tail = blocks parts ++ rest in
    let long = length-append part tail in
    let first = sized 0 [] (omega arith) in
    let others : All IsPart parts = λ k d below. sized (suc k) d (omega (arith, below)) in
    let behind_it = ap (found_in most) (drop-append_seam part tail) ∙ found_blocks most parts rest others (omega (arith, few)) in
    ap (found_in (suc most)) (blocks_cons part parts rest)
    ∙ found_step most (length part) (part ++ tail) (flat_map (λ p. p) parts) rest first.0 (omega (arith, long)) behind_it
    ∙ ap (λ l. Some (record { content = l ++ flat_map (λ p. p) parts; more = rest })) (take-append_seam part tail)

blocks_many : (parts : List (List ℕ)) (rest : List ℕ) → length parts < length (blocks parts ++ rest)
blocks_many [] rest = let none = ap length (blocks_nil rest) in omega (arith, none)
blocks_many (part ∷ parts) rest =
    let more = ap length (blocks_cons part parts rest) in
    let long = length-append part (blocks parts ++ rest) in
    let others = blocks_many parts rest in
    omega (arith, more, long, others)

-- PICTURES

picture_delay : (width height delay : ℕ) (rest : List ℕ) → word_at (picture_head width height delay ++ rest) 4 ≡ delay
unfolding picture_head
picture_delay width height delay rest = omega arith

picture_no_end : (width height delay : ℕ) (rest : List ℕ) → is_end (picture_head width height delay ++ rest) ≡ false
unfolding picture_head
picture_no_end width height delay rest = refl

picture_step : (most width height : ℕ) (octets rest content more pixels : List ℕ) (pictures : List Picture) → is_end octets ≡ false
    → behind (picture_head width height (word_at octets 4)) octets ≡ Some rest → found_in (length rest) rest ≡ Some (record { content = content; more = more })
    → pixels_of content ≡ Some pixels → length pixels ≡ width * height → pictures_in most width height more ≡ Some pictures
    → pictures_in (suc most) width height octets ≡ Some (record { delay = word_at octets 4; pixels = pixels } ∷ pictures)
unfolding pictures_in
picture_step most width height octets rest content more pixels pictures on begins found means size others =
    let same : (length pixels == width * height) ≡ true = eq-eqb (length pixels) (width * height) size in
    rw (on, begins, found, means, same, others) refl

pictures_end : (most width height : ℕ) → pictures_in (suc most) width height (59 ∷ []) ≡ Some []
unfolding pictures_in
pictures_end most width height = refl

pub found_pictures : (most width height : ℕ) (pictures : List Picture) (octets : List ℕ) → ArePictures width height pictures octets → length pictures < most
    → pictures_in most width height (octets ++ 59 ∷ []) ≡ Some pictures
found_pictures zero width height pictures octets are few = absurd (omega (arith, few))
found_pictures (suc most) width height [] octets are few = ap (λ o. pictures_in (suc most) width height (o ++ 59 ∷ [])) are ∙ pictures_end most width height
found_pictures (suc most) width height (picture ∷ pictures) octets are few =
    let first = are.0 in
    let tail = are.1 ++ 59 ∷ [] in
    let content = are.2.0 in
    let parts = are.2.4.0 in
    let start = picture_head width height picture.delay in
    let rest = blocks parts ++ tail in
    let whole_is : octets ++ 59 ∷ [] ≡ start ++ rest =
    ap (λ o. o ++ 59 ∷ []) are.4 ∙ append_assoc first are.1 (59 ∷ []) ∙ ap (λ o. o ++ tail) are.2.5 ∙ append_assoc start are.2.1 tail ∙ ap (λ o. start ++ (o ++ tail)) are.2.4.3 in
    let delay = picture_delay width height picture.delay rest in
    let begins = ap (λ d. behind (picture_head width height d) (start ++ rest)) delay ∙ behind_append start rest in
    let found = found_blocks (length rest) parts tail are.2.4.1 (blocks_many parts tail) ∙ ap (λ c. Some (record { content = c; more = tail })) are.2.4.2 in
    let others = found_pictures most width height pictures are.1 are.3 (omega (arith, few)) in
    ap (pictures_in (suc most) width height) whole_is
    ∙ picture_step most width height (start ++ rest) rest content tail picture.pixels pictures (picture_no_end width height picture.delay rest) begins found are.2.2 are.2.3 others
    ∙ ap (λ d. Some (record { delay = d; pixels = picture.pixels } ∷ pictures)) delay

head_some : (width height delay : ℕ) (rest : List ℕ) → 1 ≤ length (picture_head width height delay ++ rest)
unfolding picture_head
head_some width height delay rest = omega arith

pub many_pictures : (width height : ℕ) (pictures : List Picture) (octets : List ℕ) → ArePictures width height pictures octets → length pictures < length (octets ++ 59 ∷ [])
many_pictures width height [] octets are = let long = length-append octets (59 ∷ []) in omega (arith, long)
many_pictures width height (picture ∷ pictures) octets are =
    let long = ap length (ap (λ o. o ++ 59 ∷ []) are.4 ∙ append_assoc are.0 are.1 (59 ∷ [])) in
    let both = length-append are.0 (are.1 ++ 59 ∷ []) in
    let first = ap length are.2.5 in
    let some = head_some width height picture.delay are.2.1 in
    let others = many_pictures width height pictures are.1 are.3 in
    omega (arith, long, both, first, some, others)

-- FILES

head_width : (width height : ℕ) (palette rest : List ℕ) → word_at (head width height palette ++ rest) 6 ≡ width
unfolding head
head_width width height palette rest = omega arith

head_height : (width height : ℕ) (palette rest : List ℕ) → word_at (head width height palette ++ rest) 8 ≡ height
unfolding head
head_height width height palette rest = omega arith

head_palette : (width height : ℕ) (palette rest : List ℕ) → length palette ≡ 48 → take 48 (drop 13 (head width height palette ++ rest)) ≡ palette
unfolding head
head_palette width height palette rest all =
    let name = 33 ∷ 255 ∷ 11 ∷ codes "NETSCAPE2.0" in
    let count = 3 ∷ 1 ∷ 0 ∷ 0 ∷ 0 ∷ [] in
    ap (take 48) (append_assoc (palette ++ name) count rest ∙ append_assoc palette name (count ++ rest))
    ∙ ap (λ n. take n (palette ++ (name ++ (count ++ rest)))) (sym all)
    ∙ take-append_seam palette (name ++ (count ++ rest))

film_step : (width height : ℕ) (palette octets rest : List ℕ) (pictures : List Picture) → word_at octets 6 ≡ width → word_at octets 8 ≡ height → take 48 (drop 13 octets) ≡ palette
    → behind (head width height palette) octets ≡ Some rest → pictures_in (length rest) width height rest ≡ Some pictures
    → film_of octets ≡ Some (record { width = width; height = height; palette = palette; pictures = pictures })
unfolding film_of
film_step width height palette octets rest pictures is_width is_height is_palette begins found = rw (is_width, is_height, is_palette, begins, found) refl

pub found_film : (width height : ℕ) (palette : List ℕ) (pictures : List Picture) (octets : List ℕ) → length palette ≡ 48 → IsBegun width height palette pictures octets
    → film_of (octets ++ 59 ∷ []) ≡ Some (record { width = width; height = height; palette = palette; pictures = pictures })
found_film width height palette pictures octets colours is =
    let rest = is.0 ++ 59 ∷ [] in
    let start = head width height palette in
    ap film_of (ap (λ o. o ++ 59 ∷ []) is.2 ∙ append_assoc start is.0 (59 ∷ []))
    ∙ film_step width height palette (start ++ rest) rest pictures (head_width width height palette rest) (head_height width height palette rest)
    (head_palette width height palette rest colours) (behind_append start rest) (found_pictures (length rest) width height pictures is.0 is.1 (many_pictures width height pictures is.0 is.1))
