-- A film that grows.
use Rattle.std.proofs.Common.{◌≡◌, ℕ, zero, suc, ◌+◌, ◌*◌, ◌/◌, ◌<◌, ◌≤◌, List, [], ◌∷◌, ◌++◌, length, map, replicate, Some, refl, sym, ap, ◌∙◌, subst, arith, append_assoc, append-nil, length-append}
use Rattle.std.proofs.Math.Nat.{mul-le-mul_right}
use Rattle.std.specs.List.{All, AllByRecursion}
use Rattle.std.proofs.lemmas.List.Elements.{All-cons, All-nil}
use Rattle.std.proofs.lemmas.List.{length-replicate, map-append, replicate-append-replicate}
use Rattle.std.proofs.lemmas.Grind.{flat_map-append}
use Rattle.gif.specs.Count.{film_octets}
use Rattle.gif.specs.Gif.{Picture}
use Rattle.gif.specs.Reader.{Film, film_of}
use Rattle.gif.specs.Size.{most_octets, most_of_picture}
use Rattle.message_film.specs.Looks.{AreColours, AreJoined, FrontHasOctets, HasOctets, IsLook, Look, pending, picture_of, points_of}
use Rattle.message_film.specs.Moving.{IsSeen, Plays, played}
use Rattle.message_film.specs.Reel.{IsSoundReel, ReelData, most_of_film, reel_of}

-- WHAT PICTURES SHOW

played_none : played [] ≡ []
unfolding played
played_none = refl

played_more : (pictures : List Picture) (delay : ℕ) (pixels : List ℕ) → played (pictures ++ (record { delay = delay; pixels = pixels }) ∷ []) ≡ played pictures ++ replicate delay pixels
unfolding played
played_more pictures delay pixels =
    flat_map-append (λ picture. replicate picture.delay picture.pixels) pictures ((record { delay = delay; pixels = pixels }) ∷ [])
    ∙ ap (λ l. played pictures ++ l) (append-nil (replicate delay pixels))

played_first : (picture : Picture) (pictures : List Picture) → played (picture ∷ pictures) ≡ replicate picture.delay picture.pixels ++ played pictures
unfolding played
played_first picture pictures = refl

-- and with the one that waits
played_pending : (side width height : ℕ) (pictures : List Picture) (colours : List ℕ) (tenths : ℕ)
    → played (pictures ++ map (picture_of side width height) (pending colours tenths)) ≡ played pictures ++ replicate (10 * tenths) (points_of side width height colours)
played_pending side width height pictures colours zero = ap played (append-nil pictures) ∙ sym (append-nil (played pictures))
played_pending side width height pictures colours (suc tenths) = played_more pictures (10 * suc tenths) (points_of side width height colours)

-- LOOKS

pub pending_none : (colours : List ℕ) (tenths : ℕ) → tenths ≤ 0 → pending colours tenths ≡ []
pending_none colours zero none = refl
pending_none colours (suc tenths) none = absurd (omega (arith, none))

pub pending_some : (colours : List ℕ) (tenths : ℕ) → 0 < tenths → pending colours tenths ≡ (record { colours = colours; tenths = tenths }) ∷ []
pending_some colours zero some = absurd (omega (arith, some))
pending_some colours (suc tenths) some = refl

each_more : (width height : ℕ) (looks more : List Look) → AllByRecursion (IsLook width height) looks → AllByRecursion (IsLook width height) more → AllByRecursion (IsLook width height) (looks ++ more)
each_more width height [] more each others = others
each_more width height (look ∷ looks) more each others = (each.0, each_more width height looks more each.1 others)

each_pending : (width height : ℕ) (colours : List ℕ) (tenths : ℕ) → (0 < tenths → AreColours width height colours) → AllByRecursion (IsLook width height) (pending colours tenths)
each_pending width height colours zero whole = tt
each_pending width height colours (suc tenths) whole = ((omega arith, whole (omega arith)), tt)

few_pictures : (side width height : ℕ) (looks : List Look) → AllByRecursion (IsLook width height) looks
    → 10 * length (map (picture_of side width height) looks) ≤ length (played (map (picture_of side width height) looks))
few_pictures side width height [] each = omega arith
few_pictures side width height (look ∷ looks) each =
    let rest = few_pictures side width height looks each.1 in
    let pictures = map (picture_of side width height) looks in
    let points = points_of side width height look.colours in
    let long = ap length (played_first (picture_of side width height look) pictures) ∙ length-append (replicate (10 * look.tenths) points) (played pictures) in
    let count = length-replicate (10 * look.tenths) points in
    let some = each.0.0 in
    omega (arith, rest, long, count, some)

all_seen : (side width height : ℕ) (looks : List Look) → AllByRecursion (IsLook width height) looks → All IsSeen (map (picture_of side width height) looks)
all_seen side width height [] each = All-nil IsSeen
all_seen side width height (look ∷ looks) each =
    let some = each.0.0 in
    All-cons IsSeen (picture_of side width height look) (map (picture_of side width height) looks) (omega (arith, some)) (all_seen side width height looks each.1)

-- JOINED LOOKS

joined_front : (looks more : List Look) → AreJoined (looks ++ more) → AreJoined looks
joined_front [] more joined = tt
joined_front (look ∷ []) more joined = (tt, tt)
joined_front (look ∷ other ∷ looks) more joined = (joined.0, joined_front (other ∷ looks) more joined.1)

joined_longer : (looks : List Look) (colours : List ℕ) (tenths more : ℕ) → AreJoined (looks ++ (record { colours = colours; tenths = tenths }) ∷ [])
    → AreJoined (looks ++ (record { colours = colours; tenths = more }) ∷ [])
joined_longer [] colours tenths more joined = (tt, tt)
joined_longer (look ∷ []) colours tenths more joined = (joined.0, (tt, tt))
joined_longer (look ∷ other ∷ looks) colours tenths more joined = (joined.0, joined_longer (other ∷ looks) colours tenths more joined.1)

joined_next : (looks : List Look) (last next : Look) → AreJoined (looks ++ last ∷ []) → (last.colours ≡ next.colours → 6553 ≤ last.tenths) → AreJoined ((looks ++ last ∷ []) ++ next ∷ [])
joined_next [] last next joined apart = (apart, (tt, tt))
joined_next (look ∷ []) last next joined apart = (joined.0, (apart, (tt, tt)))
joined_next (look ∷ other ∷ looks) last next joined apart = (joined.0, joined_next (other ∷ looks) last next joined.1 apart)

-- the look that waits lasts for a tenth of a second more
still_joined : (looks : List Look) (colours : List ℕ) (tenths : ℕ) → AreJoined (looks ++ pending colours tenths) → (tenths ≡ 0 → looks ≡ []) → AreJoined (looks ++ pending colours (tenths + 1))
still_joined looks colours zero joined first = subst (λ l. AreJoined (l ++ pending colours 1)) (sym (first refl)) (tt, tt)
still_joined looks colours (suc tenths) joined first =
    let next : suc tenths + 1 ≡ suc (suc tenths) = omega arith in
    subst (λ n. AreJoined (looks ++ pending colours n)) (sym next) (joined_longer looks colours (suc tenths) (suc (suc tenths)) joined)

-- another one follows it
joined_more : (looks : List Look) (colours more : List ℕ) (tenths : ℕ) → AreJoined (looks ++ pending colours tenths) → (tenths ≡ 0 → looks ≡ []) → (colours ≡ more → 6553 ≤ tenths)
    → AreJoined ((looks ++ pending colours tenths) ++ pending more 1)
joined_more looks colours more zero joined first apart = subst (λ l. AreJoined ((l ++ []) ++ pending more 1)) (sym (first refl)) (tt, tt)
joined_more looks colours more (suc tenths) joined first apart =
    joined_next looks (record { colours = colours; tenths = suc tenths }) (record { colours = more; tenths = 1 }) joined apart

-- A FILM

-- a film with other points and the same palette
same_reel : (side width height left : ℕ) (palette other : List ℕ) (points more : List (List ℕ)) → other ≡ palette → more ≡ points
    → ◌≡◌ {A = ReelData} (record { side = side; width = width; height = height; palette = other; points = more; left = left }) (record { side = side; width = width; height = height; palette = palette; points = points; left = left })
same_reel side width height left palette other points more same_palette same_points =
    ap (λ p. record { side = side; width = width; height = height; palette = p; points = more; left = left }) same_palette
    ∙ ap (λ p. record { side = side; width = width; height = height; palette = palette; points = p; left = left }) same_points

-- a film begins
pub begins : (side width height scale : ℕ) (film : Film) (palette other colours : List ℕ) → film ≡ record { width = scale * width; height = scale * height; palette = other; pictures = [] }
    → other ≡ palette → reel_of side width height film colours 0 ≡ record { side = side; width = width; height = height; palette = palette; points = []; left = 0 }
begins side width height scale film palette other colours is same =
    same_reel side width height 0 palette film.palette [] _ (ap (λ (f : Film). f.palette) is ∙ same) (ap (λ (f : Film). played f.pictures ++ []) is ∙ append-nil (played []) ∙ played_none)

pub begins_sound : (side width height scale : ℕ) (film : Film) (other colours : List ℕ) → film ≡ record { width = scale * width; height = scale * height; palette = other; pictures = [] }
    → scale ≡ side → IsSoundReel side width height film colours 0
begins_sound side width height scale film other colours is same = record {
  size = (ap (λ (f : Film). f.width) is ∙ ap (λ s. s * width) same, ap (λ (f : Film). f.height) is ∙ ap (λ s. s * height) same);
  few = omega arith;
  whole = λ none. absurd (omega (arith, none));
  looks = [];
  made = ap (λ (f : Film). f.pictures) is;
  each = tt;
  joined = tt;
  first = λ _. refl;
}

-- the same colours are shown for a tenth of a second more
pub again : (side width height : ℕ) (film : Film) (colours more : List ℕ) (tenths : ℕ) → colours ≡ more
    → (reel_of side width height film colours (tenths + 1)).points ≡ (reel_of side width height film colours tenths).points ++ replicate 10 (points_of side width height more)
again side width height film colours more tenths same =
    let points = points_of side width height colours in
    let count : 10 * (tenths + 1) ≡ 10 * tenths + 10 = omega arith in
    ap (λ n. played film.pictures ++ replicate n points) count
    ∙ ap (λ l. played film.pictures ++ l) (sym (replicate-append-replicate (10 * tenths) 10 points))
    ∙ sym (append_assoc (played film.pictures) (replicate (10 * tenths) points) (replicate 10 points))
    ∙ ap (λ c. (played film.pictures ++ replicate (10 * tenths) points) ++ replicate 10 (points_of side width height c)) same

pub again_sound : (side width height : ℕ) (film : Film) (colours more : List ℕ) (tenths : ℕ) → IsSoundReel side width height film colours tenths → colours ≡ more
    → AreColours width height more → tenths < 6553 → IsSoundReel side width height film colours (tenths + 1)
again_sound side width height film colours more tenths sound same whole few = record {
  size = sound.size;
  few = omega (arith, few);
  whole = λ _. subst (AreColours width height) (sym same) whole;
  looks = sound.looks;
  made = sound.made;
  each = sound.each;
  joined = still_joined sound.looks colours tenths sound.joined sound.first;
  first = λ none. absurd (omega (arith, none));
}

-- other colours are shown, where all before them is written
pub other : (side width height : ℕ) (film new : Film) (colours more : List ℕ) (tenths : ℕ)
    → new.pictures ≡ film.pictures ++ map (picture_of side width height) (pending colours tenths)
    → (reel_of side width height new more 1).points ≡ (reel_of side width height film colours tenths).points ++ replicate 10 (points_of side width height more)
other side width height film new colours more tenths written =
    ap (λ l. l ++ replicate 10 (points_of side width height more)) (ap played written ∙ played_pending side width height film.pictures colours tenths)

pub other_sound : (side width height : ℕ) (film new : Film) (colours more : List ℕ) (tenths : ℕ) → IsSoundReel side width height film colours tenths
    → new.pictures ≡ film.pictures ++ map (picture_of side width height) (pending colours tenths) → (new.width ≡ film.width) × (new.height ≡ film.height)
    → AreColours width height more → (colours ≡ more → 6553 ≤ tenths) → IsSoundReel side width height new more 1
other_sound side width height film new colours more tenths sound written size whole apart = record {
  size = (size.0 ∙ sound.size.0, size.1 ∙ sound.size.1);
  few = omega arith;
  whole = λ _. whole;
  looks = sound.looks ++ pending colours tenths;
  made = written
      ∙ ap (λ p. p ++ map (picture_of side width height) (pending colours tenths)) sound.made
      ∙ sym (map-append (picture_of side width height) sound.looks (pending colours tenths));
  each = each_more width height sound.looks (pending colours tenths) sound.each (each_pending width height colours tenths sound.whole);
  joined = joined_more sound.looks colours more tenths sound.joined sound.first apart;
  first = λ none. absurd (omega (arith, none));
}

-- A FILE

-- how many octets are written at most
fits : (side width height octets : ℕ) (film : Film) (looks : List Look) (points more : List (List ℕ)) → (film.width ≡ side * width) × (film.height ≡ side * height)
    → film.pictures ≡ map (picture_of side width height) looks → AllByRecursion (IsLook width height) looks → points ≡ played film.pictures ++ more
    → octets ≤ most_octets film → octets ≤ most_of_film side width height (length points / 10)
fits side width height octets film looks points more sized made each shown most =
    let size = most_of_picture (side * width * (side * height)) in
    let long = ap length shown ∙ length-append (played film.pictures) more in
    let count = subst (λ (p : List Picture). 10 * length p ≤ length (played p)) (sym made) (few_pictures side width height looks each) in
    let few : length film.pictures ≤ length points / 10 = omega (arith, long, count) in
    let product : length film.pictures * size ≤ length points / 10 * size = mul-le-mul_right size few in
    let area : film.width * film.height ≡ side * width * (side * height) = ap (λ w. w * film.height) sized.0 ∙ ap (λ h. side * width * h) sized.1 in
    let small : octets ≤ 80 + length film.pictures * size = subst (λ n. octets ≤ 80 + length film.pictures * most_of_picture n) area most in
    omega (arith, small, product)

pub small : (side width height octets : ℕ) (film : Film) (colours : List ℕ) (tenths : ℕ) (reel : ReelData) → IsSoundReel side width height film colours tenths
    → reel_of side width height film colours tenths ≡ reel → octets ≤ most_octets film → octets ≤ most_of_film reel.side reel.width reel.height (length reel.points / 10)
small side width height octets film colours tenths reel sound view most =
    let shown = played film.pictures ++ replicate (10 * tenths) (points_of side width height colours) in
    subst (λ (r : ReelData). octets ≤ most_of_film r.side r.width r.height (length r.points / 10)) view
    (fits side width height octets film sound.looks shown (replicate (10 * tenths) (points_of side width height colours)) sound.size sound.made sound.each refl most)

-- what is written so far is the file of the beginning
pub front : (side width height octets : ℕ) (film : Film) (colours : List ℕ) (tenths : ℕ) (reel : ReelData) → IsSoundReel side width height film colours tenths
    → reel_of side width height film colours tenths ≡ reel → octets ≡ film_octets film.pictures → FrontHasOctets reel.side reel.width reel.height reel.points (octets + 1)
front side width height octets film colours tenths reel sound view exact =
    subst (λ (r : ReelData). FrontHasOctets r.side r.width r.height r.points (octets + 1)) view (record {
      first = played film.pictures;
      rest = replicate (10 * tenths) (points_of side width height colours);
      parts = refl;
      file = record {
        looks = sound.looks;
        each = sound.each;
        joined = joined_front sound.looks (pending colours tenths) sound.joined;
        shown = ap played (sym sound.made);
        count = ap (λ n. n + 1) (exact ∙ ap film_octets sound.made);
      };
    })

-- the end of a film of which all is written
pub record IsFinished (reel : ReelData) (octets : List ℕ) : Type 0 where
  pub plays : Plays (reel.side * reel.width) (reel.side * reel.height) reel.palette reel.points octets
  pub exact : HasOctets reel.side reel.width reel.height reel.points (length octets)
  pub size : length octets ≤ most_of_film reel.side reel.width reel.height (length reel.points / 10) + 1

pub finished : (side width height : ℕ) (film new : Film) (colours octets : List ℕ) (tenths : ℕ) (reel : ReelData) → IsSoundReel side width height film colours tenths
    → reel_of side width height film colours tenths ≡ reel
    → new.pictures ≡ film.pictures ++ map (picture_of side width height) (pending colours tenths) → (new.width ≡ film.width) × (new.height ≡ film.height) → new.palette ≡ film.palette
    → film_of octets ≡ Some new → length octets ≡ film_octets new.pictures + 1 → length octets ≤ most_octets new + 1 → IsFinished reel octets
finished side width height film new colours octets tenths reel sound view written size same_palette found exact most =
    let shown = played film.pictures ++ replicate (10 * tenths) (points_of side width height colours) in
    let looks = sound.looks ++ pending colours tenths in
    let each = each_more width height sound.looks (pending colours tenths) sound.each (each_pending width height colours tenths sound.whole) in
    let made : new.pictures ≡ map (picture_of side width height) looks =
    written ∙ ap (λ p. p ++ map (picture_of side width height) (pending colours tenths)) sound.made ∙ sym (map-append (picture_of side width height) sound.looks (pending colours tenths)) in
    let plays : played new.pictures ≡ shown = ap played written ∙ played_pending side width height film.pictures colours tenths in
    let sized : (new.width ≡ side * width) × (new.height ≡ side * height) = (size.0 ∙ sound.size.0, size.1 ∙ sound.size.1) in
    let small = fits side width height (film_octets new.pictures) new looks shown [] sized made each (sym plays ∙ sym (append-nil (played new.pictures))) (omega (arith, exact, most)) in
    subst (λ (r : ReelData). IsFinished r octets) view (record {
      plays = (
        new.pictures,
        found
            ∙ ap (λ w. Some (record { width = w; height = new.height; palette = new.palette; pictures = new.pictures })) sized.0
            ∙ ap (λ h. Some (record { width = side * width; height = h; palette = new.palette; pictures = new.pictures })) sized.1
            ∙ ap (λ p. Some (record { width = side * width; height = side * height; palette = p; pictures = new.pictures })) same_palette,
        plays,
        subst (All IsSeen) (sym made) (all_seen side width height looks each),
      );
      exact = record {
        looks = looks;
        each = each;
        joined = sound.joined;
        shown = ap played (sym made) ∙ plays;
        count = exact ∙ ap (λ p. film_octets p + 1) made;
      };
      size = omega (arith, small, exact);
    })
