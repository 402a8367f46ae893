-- What a text shows, tenth by tenth.
use Rattle.std.proofs.Common.{◌≡◌, ℕ, zero, suc, ◌+◌, ◌-◌, ◌*◌, ◌/◌, ◌<◌, ◌≤◌, List, [], ◌∷◌, ◌++◌, length, map, replicate, refl, sym, ap, ◌∙◌, subst, arith, append_assoc, append-nil, length-append}
use Rattle.std.proofs.Math.Nat.{mul-le-mul_right}
use Rattle.std.proofs.lemmas.Grind.{flat_map-append}
use Rattle.std.specs.List.{flat_map, range_with_len}
use Rattle.sign_font.specs.Sign.{SignData}
use Rattle.multi_meaning.specs.declared.times.Shown.{Shown}
use Rattle.multi_meaning.specs.Times.{shown}
use Rattle.page_picture.proofs.ColourLemmas.{value_of}
use Rattle.page_picture.specs.Dots.{dot_line, dots, line_points, row_points, value_at}
use Rattle.page_picture.specs.Shown.{colours, shown_colour_at}
use Rattle.page_picture.specs.Palette.{palette}
use Rattle.message_film.specs.Moving.{IsFilmOf, Plays, in_tenths, moving, seen_points}
use Rattle.gif.specs.Size.{most_of_picture}
use Rattle.message_film.specs.Film.{IsTooLarge}
use Rattle.message_film.specs.Looks.{FrontHasOctets, HasOctets, points_of}
use Rattle.message_film.specs.Reel.{ReelData, most_of_film}

map_next : (f : ℕ → List ℕ) (a n j : ℕ) → a + n ≡ j → map f (range_with_len a (suc n)) ≡ map f (range_with_len a n) ++ f j ∷ []
map_next f a zero j is = ap (λ x. x ∷ []) (ap f (omega (arith, is)))
map_next f a (suc n) j is = ap (λ l. f a ∷ l) (map_next f (a + 1) n j (omega (arith, is)))

pub none : (side : ℕ) (sign : SignData) (text : List ℕ) → in_tenths (moving side sign text 0) ≡ []
unfolding in_tenths moving
none side sign text = refl

pub tenths_one : (points : List ℕ) → in_tenths (points ∷ []) ≡ replicate 10 points
unfolding in_tenths
tenths_one points = append-nil (replicate 10 points)

tenths_more : (points : List (List ℕ)) (one : List ℕ) → in_tenths (points ++ one ∷ []) ≡ in_tenths points ++ replicate 10 one
unfolding in_tenths
tenths_more points one = flat_map-append (λ p. replicate 10 p) points (one ∷ []) ∙ ap (λ l. in_tenths points ++ l) (append-nil (replicate 10 one))

moving_more : (side : ℕ) (sign : SignData) (text : List ℕ) (clock : ℕ) → moving side sign text (clock + 1) ≡ moving side sign text clock ++ seen_points side sign text (shown sign text clock) ∷ []
unfolding moving
moving_more side sign text clock =
    let next : clock + 1 ≡ suc clock = omega arith in
    ap (λ n. map (λ t. seen_points side sign text (shown sign text t)) (range_with_len 0 n)) next
    ∙ map_next (λ t. seen_points side sign text (shown sign text t)) 0 clock clock (omega arith)

-- one more tenth of a second
pub more : (side : ℕ) (sign : SignData) (text : List ℕ) (clock : ℕ)
    → in_tenths (moving side sign text (clock + 1)) ≡ in_tenths (moving side sign text clock) ++ replicate 10 (seen_points side sign text (shown sign text clock))
more side sign text clock = ap in_tenths (moving_more side sign text clock) ∙ tenths_more (moving side sign text clock) (seen_points side sign text (shown sign text clock))

tenths_count : (points : List (List ℕ)) → length (in_tenths points) ≡ 10 * length points
unfolding in_tenths
tenths_count [] = omega arith
tenths_count (one ∷ points) =
    let rest = tenths_count points in
    let both = length-append (replicate 10 one) (in_tenths points) in
    omega (arith, rest, both)

map_count : (f : ℕ → List ℕ) (a n : ℕ) → length (map f (range_with_len a n)) ≡ n
map_count f a zero = refl
map_count f a (suc n) = ap suc (map_count f (a + 1) n)

pub count : (side : ℕ) (sign : SignData) (text : List ℕ) (tenths : ℕ) → length (in_tenths (moving side sign text tenths)) ≡ 10 * tenths
unfolding moving
count side sign text tenths =
    tenths_count (map (λ t. seen_points side sign text (shown sign text t)) (range_with_len 0 tenths))
    ∙ ap (λ n. 10 * n) (map_count (λ t. seen_points side sign text (shown sign text t)) 0 tenths)

-- THE POINTS OF COLOURS

lines_same : (side : ℕ) (at other : ℕ → ℕ → ℕ) (row line a n : ℕ) → ((column : ℕ) → column < a + n → at column row ≡ other column row)
    → flat_map (λ column. dot_line side (at column row) line side) (range_with_len a n) ≡ flat_map (λ column. dot_line side (other column row) line side) (range_with_len a n)
lines_same side at other row line a zero same = refl
lines_same side at other row line a (suc n) same =
    ap (λ c. dot_line side c line side ++ flat_map (λ column. dot_line side (at column row) line side) (range_with_len (a + 1) n)) (same a (omega arith))
    ∙ ap (λ l. dot_line side (other a row) line side ++ l) (lines_same side at other row line (a + 1) n (λ column left. same column (omega (arith, left))))

rows_same : (f g : ℕ → List ℕ) (a n : ℕ) → ((k : ℕ) → k < a + n → f k ≡ g k) → flat_map f (range_with_len a n) ≡ flat_map g (range_with_len a n)
rows_same f g a zero same = refl
rows_same f g a (suc n) same =
    ap (λ x. x ++ flat_map f (range_with_len (a + 1) n)) (same a (omega arith))
    ∙ ap (λ l. g a ++ l) (rows_same f g (a + 1) n (λ k below. same k (omega (arith, below))))

-- pixels that are the same have the same points
pub dots_same : (side : ℕ) (at other : ℕ → ℕ → ℕ) (width height : ℕ) → ((column row : ℕ) → column < width → row < height → at column row ≡ other column row)
    → dots side at width height ≡ dots side other width height
unfolding dots row_points line_points
dots_same side at other width height same =
    rows_same (λ row. row_points side at width row side) (λ row. row_points side other width row side) 0 height (λ row above.
    rows_same (λ line. line_points side at row line width) (λ line. line_points side other row line width) 0 side (λ line _.
    lines_same side at other row line 0 width (λ column left. same column row (omega (arith, left)) (omega (arith, above)))))

-- the points of the colours of what is shown
pub seen : (side : ℕ) (sign : SignData) (text : List ℕ) (at : Shown) → points_of side sign.width sign.height (colours sign text at) ≡ seen_points side sign text at
seen side sign text at = dots_same side (value_at (colours sign text at) sign.width) (shown_colour_at sign text at) sign.width sign.height
    (value_of (shown_colour_at sign text at) sign.width sign.height)

-- a moment that is drawn
pub moment : (side width height : ℕ) (sign : SignData) (text drawn : List ℕ) (at : Shown) → width ≡ sign.width → height ≡ sign.height → drawn ≡ colours sign text at
    → points_of side width height drawn ≡ seen_points side sign text at
moment side width height sign text drawn at wide high is =
    ap (λ w. points_of side w height drawn) wide ∙ ap (λ h. points_of side sign.width h drawn) high ∙ ap (points_of side sign.width sign.height) is ∙ seen side sign text at

-- a film of a sign that plays
pub is_film : (side : ℕ) (sign : SignData) (reel : ReelData) (points : List (List ℕ)) (octets : List ℕ) → reel.side ≡ side → reel.width ≡ sign.width → reel.height ≡ sign.height
    → reel.palette ≡ palette sign.classic → reel.points ≡ in_tenths points → Plays (reel.side * reel.width) (reel.side * reel.height) reel.palette reel.points octets → IsFilmOf side sign points octets
is_film side sign reel points octets sided wide high painted shown plays =
    let size : reel.side * reel.width ≡ side * sign.width = ap (λ s. s * reel.width) sided ∙ ap (λ w. side * w) wide in
    let tall : reel.side * reel.height ≡ side * sign.height = ap (λ s. s * reel.height) sided ∙ ap (λ h. side * h) high in
    subst (λ p. Plays (side * sign.width) (side * sign.height) (palette sign.classic) p octets) shown
    (subst (λ p. Plays (side * sign.width) (side * sign.height) p reel.points octets) painted
    (subst (λ h. Plays (side * sign.width) h reel.palette reel.points octets) tall
    (subst (λ w. Plays w (reel.side * reel.height) reel.palette reel.points octets) size plays)))

-- one more tenth of a second of a film
pub next : (side other : ℕ) (sign : SignData) (text octets : List ℕ) (clock : ℕ) → other ≡ side → octets ≡ text
    → in_tenths (moving side sign text clock) ++ replicate 10 (seen_points other sign octets (shown sign octets clock)) ≡ in_tenths (moving side sign text (clock + 1))
next side other sign text octets clock sided same =
    ap (λ s. in_tenths (moving side sign text clock) ++ replicate 10 (seen_points s sign octets (shown sign octets clock))) sided
    ∙ ap (λ t. in_tenths (moving side sign text clock) ++ replicate 10 (seen_points side sign t (shown sign t clock))) same
    ∙ sym (more side sign text clock)

-- the first tenths of a second are the beginning of more of them
ahead : (side : ℕ) (sign : SignData) (text : List ℕ) (start tenths : ℕ)
    → (rest : List (List ℕ)) × (in_tenths (moving side sign text (start + tenths)) ≡ in_tenths (moving side sign text start) ++ rest)
ahead side sign text start zero =
    let same : start + zero ≡ start = omega arith in
    ([], ap (λ n. in_tenths (moving side sign text n)) same ∙ sym (append-nil (in_tenths (moving side sign text start))))
ahead side sign text start (suc tenths) =
    let before = ahead side sign text start tenths in
    let last = replicate 10 (seen_points side sign text (shown sign text (start + tenths))) in
    let next : start + suc tenths ≡ start + tenths + 1 = omega arith in (
      before.0 ++ last,
      ap (λ n. in_tenths (moving side sign text n)) next
          ∙ more side sign text (start + tenths)
          ∙ ap (λ l. l ++ last) before.1
          ∙ append_assoc (in_tenths (moving side sign text start)) before.0 last,
    )

-- a file of some size, by its reel's
has_octets : (side : ℕ) (sign : SignData) (reel : ReelData) (points : List (List ℕ)) (octets : ℕ) → reel.side ≡ side → reel.width ≡ sign.width → reel.height ≡ sign.height
    → HasOctets reel.side reel.width reel.height points octets → HasOctets side sign.width sign.height points octets
has_octets side sign reel points octets sided wide high file =
    subst (λ h. HasOctets side sign.width h points octets) high
    (subst (λ w. HasOctets side w reel.height points octets) wide
    (subst (λ s. HasOctets s reel.width reel.height points octets) sided file))

-- how many octets a film has at most, by its reel's size
most_by : (side : ℕ) (sign : SignData) (reel : ReelData) (tenths : ℕ) → reel.side ≡ side → reel.width ≡ sign.width → reel.height ≡ sign.height
    → most_of_film reel.side reel.width reel.height tenths ≡ most_of_film side sign.width sign.height tenths
most_by side sign reel tenths sided wide high =
    ap (λ s. most_of_film s reel.width reel.height tenths) sided
    ∙ ap (λ w. most_of_film side w reel.height tenths) wide
    ∙ ap (λ h. most_of_film side sign.width h tenths) high

-- a film that is too large so far is too large in the end
pub large : (side : ℕ) (sign : SignData) (text : List ℕ) (reel : ReelData) (clock tenths octets : ℕ) → reel.side ≡ side → reel.width ≡ sign.width → reel.height ≡ sign.height
    → reel.points ≡ in_tenths (moving side sign text (clock + 1)) → clock < tenths → FrontHasOctets reel.side reel.width reel.height reel.points (octets + 1)
    → octets ≤ most_of_film reel.side reel.width reel.height (length reel.points / 10) → 64000000 < octets → IsTooLarge side sign text tenths
large side sign text reel clock tenths octets sided wide high points less front most too_large =
    let size = most_of_picture (side * sign.width * (side * sign.height)) in
    let long = ap length points ∙ count side sign text (clock + 1) in
    let few : length reel.points / 10 ≤ tenths = omega (arith, long, less) in
    let product : length reel.points / 10 * size ≤ tenths * size = mul-le-mul_right size few in
    let same = most_by side sign reel (length reel.points / 10) sided wide high in
    let rest = ahead side sign text (clock + 1) (tenths - (clock + 1)) in
    let end : tenths ≡ clock + 1 + (tenths - (clock + 1)) = omega (arith, less) in
    record {
      octets = octets + 1;
      front = record {
        first = front.first;
        rest = front.rest ++ rest.0;
        parts = ap (λ n. in_tenths (moving side sign text n)) end
            ∙ rest.1
            ∙ ap (λ l. l ++ rest.0) (sym points ∙ front.parts)
            ∙ append_assoc front.first front.rest rest.0;
        file = has_octets side sign reel front.first (octets + 1) sided wide high front.file;
      };
      larger = omega (arith, too_large);
      most = omega (arith, same, product, most, too_large);
    }

pub large_end : (side : ℕ) (sign : SignData) (text : List ℕ) (reel : ReelData) (tenths octets : ℕ) → reel.side ≡ side → reel.width ≡ sign.width → reel.height ≡ sign.height
    → reel.points ≡ in_tenths (moving side sign text tenths) → HasOctets reel.side reel.width reel.height reel.points octets
    → octets ≤ most_of_film reel.side reel.width reel.height (length reel.points / 10) + 1 → 64000000 < octets → IsTooLarge side sign text tenths
large_end side sign text reel tenths octets sided wide high points file most too_large =
    let long = ap length points ∙ count side sign text tenths in
    let all : length reel.points / 10 ≡ tenths = omega (arith, long) in
    let same = most_by side sign reel (length reel.points / 10) sided wide high ∙ ap (most_of_film side sign.width sign.height) all in
    record {
      octets = octets;
      front = record {
        first = reel.points;
        rest = [];
        parts = sym points ∙ sym (append-nil reel.points);
        file = has_octets side sign reel reel.points octets sided wide high file;
      };
      larger = too_large;
      most = omega (arith, same, most, too_large);
    }
