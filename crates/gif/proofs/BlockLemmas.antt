-- Data in blocks.
use Rattle.std.proofs.Common.{◌≡◌, ℕ, ◌+◌, ◌*◌, ◌/◌, ◌%◌, ◌<◌, ◌≤◌, List, [], ◌∷◌, ◌++◌, length, take, drop, refl, sym, ap, ◌∙◌, arith, append_assoc, append-nil, length-append}
use Rattle.std.proofs.lemmas.Grind.{flat_map-append}
use Rattle.std.proofs.Math.Seq.{take-add}
use Rattle.std.proofs.lemmas.List.{length-take-le}
use Rattle.std.proofs.lemmas.List.Elements.{All-append, All-cons, All-nil}
use Rattle.std.specs.List.{All, flat_map}
use Rattle.gif.specs.Gif.{GrewBy, IsBlocks, IsPart, blocks, picture_head}
use Rattle.gif.specs.Count.{block_octets, data_octets, picture_octets}
use Rattle.gif.specs.Size.{most_of_picture}

-- a list grew by whole blocks of what stands before a place
pub record SoFar (old now content : List ℕ) (start : ℕ) : Type 0 where
  pub parts : List (List ℕ)
  pub sized : All IsPart parts
  pub count : length now ≡ length old + start + (start + 254) / 255
  pub whole : start < length content → start % 255 ≡ 0
  pub taken : flat_map (λ part. part) parts ≡ take start content
  pub grown : now ≡ old ++ flat_map (λ part. length part ∷ part) parts

pub so_far_none : (old content : List ℕ) → SoFar old old content 0
so_far_none old content = record {
  parts = [];
  sized = All-nil IsPart;
  count = omega arith;
  whole = λ _. omega arith;
  taken = refl;
  grown = sym (append-nil old);
}

pub so_far_more : (old now new content part : List ℕ) (start count : ℕ) → SoFar old now content start → 1 ≤ count → count ≤ 255 → (start + count < length content → count ≡ 255) → start < length content → length part ≡ count
    → part ≡ take count (drop start content) → new ≡ (now ++ count ∷ []) ++ part → SoFar old new content (start + count)
so_far_more old now new content part start count s least most full inside long is grew =
    let all = ap length grew in
    let both = length-append (now ++ count ∷ []) part in
    let one = length-append now (count ∷ []) in
    let whole = s.whole inside in
    let before = s.count in
    record {
      parts = s.parts ++ part ∷ [];
      sized = All-append IsPart s.parts (part ∷ []) s.sized (All-cons IsPart part [] (omega (arith, long, least), omega (arith, long, most)) (All-nil IsPart));
      taken = flat_map-append (λ p. p) s.parts (part ∷ []) ∙ ap (λ l. flat_map (λ p. p) s.parts ++ l) (append-nil part) ∙ ap (λ l. l ++ part) s.taken ∙ ap (λ l. take start content ++ l) is ∙ sym (take-add start count content);
      count = omega (arith, all, both, one, long, whole, before, least, most);
      whole = λ more. let fills = full more in omega (arith, whole, fills);
      grown = grew
          ∙ append_assoc now (count ∷ []) part
          ∙ ap (λ l. l ++ count ∷ part) s.grown
          ∙ append_assoc old (flat_map (λ p. length p ∷ p) s.parts) (count ∷ part)
          ∙ ap (λ l. old ++ (flat_map (λ p. length p ∷ p) s.parts ++ l)) (ap (λ n. n ∷ part) (sym long) ∙ sym (append-nil (length part ∷ part)))
          ∙ ap (λ l. old ++ l) (sym (flat_map-append (λ p. length p ∷ p) s.parts (part ∷ [])));
    }

pub so_far_all : (old now new content : List ℕ) (start : ℕ) → SoFar old now content start → take start content ≡ content → new ≡ now ++ 0 ∷ [] → GrewBy (IsBlocks content) old new
unfolding blocks
so_far_all old now new content start s all grew = (
  blocks s.parts,
  (s.parts, s.sized, s.taken ∙ all, refl),
  grew ∙ ap (λ l. l ++ 0 ∷ []) s.grown ∙ append_assoc old (flat_map (λ part. length part ∷ part) s.parts) (0 ∷ []),
)

-- how many octets there are with all blocks
pub size_all : (old now new content : List ℕ) (start : ℕ) → SoFar old now content start → start ≤ length content → take start content ≡ content → new ≡ now ++ 0 ∷ []
    → length new ≡ length old + block_octets (length content)
size_all old now new content start s inside whole grew =
    let all = ap length grew in
    let one = length-append now (0 ∷ []) in
    let count = s.count in
    let end : start ≡ length content = sym (length-take-le start content inside) ∙ ap length whole in
    omega (arith, all, one, count, end)

head_count : (width height delay : ℕ) → length (picture_head width height delay) ≡ 19
unfolding picture_head
head_count width height delay = refl

-- how many octets a picture has
pub picture_exact : (width height delay : ℕ) (content start all : List ℕ) (pixels : List ℕ) → length content ≡ data_octets pixels → start ≡ picture_head width height delay
    → length all ≡ length start + block_octets (length content) → length all ≡ picture_octets pixels
unfolding picture_octets
picture_exact width height delay content start all pixels exact is size =
    let begins = ap length is ∙ head_count width height delay in
    size ∙ ap (λ n. n + block_octets (length content)) begins ∙ ap (λ n. 19 + block_octets n) exact

pub picture_small : (width height delay points : ℕ) (content start all : List ℕ) → 8 * length content ≤ 13 * points + 32 → start ≡ picture_head width height delay
    → length all ≡ length start + block_octets (length content) → length all ≤ most_of_picture points
picture_small width height delay points content start all short is size =
    let begins = ap length is ∙ head_count width height delay in
    omega (arith, short, begins, size)
