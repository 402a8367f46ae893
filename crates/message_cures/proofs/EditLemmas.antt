-- A text with edits.
use Rattle.std.proofs.Common.{◌≡◌, ℕ, ◌+◌, ◌-◌, ◌≤◌, List, [], ◌∷◌, ◌++◌, length, sym, ap, ◌∙◌, arith, subst, append_assoc, append-nil, drop, slice_range, take}
use Rattle.std.proofs.lemmas.Grind.{common_steps}
use Rattle.std.proofs.lemmas.List.{drop-drop, length-drop, take-append-drop}
use Rattle.std.proofs.Math.Seq.{take-add}
use Rattle.message_cures.specs.declared.difference.Edit.{Edit}
use Rattle.message_cures.specs.Edits.{AreInOrder, IsEdited, applied}

-- what comes of the octets of a text up to an offset
abbrev pub front : ℕ → List Edit → ℕ → List ℕ → List ℕ
front from [] to text = take (to - from) (drop from text)
front from (edit ∷ edits) to text = take (edit.from - from) (drop from text) ++ edit.octets.items ++ front edit.to edits to text

-- edits are in their order up to a further offset
pub reach : (from : ℕ) (edits : List Edit) (one other : ℕ) → AreInOrder from edits one → one ≤ other → AreInOrder from edits other
reach from [] one other first more = omega (arith, first, more)
reach from (edit ∷ edits) one other (below, fits, rest) more = (below, fits, reach edit.to edits one other rest more)

-- one edit more
pub more_order : (from : ℕ) (edits : List Edit) (edit : Edit) → AreInOrder from edits edit.from → edit.from ≤ edit.to → AreInOrder from (edits ++ edit ∷ []) edit.to
more_order from [] edit first fits = (first, fits, omega arith)
more_order from (e ∷ edits) edit (below, fit, rest) fits = (below, fit, more_order e.to edits edit rest fits)

no_octets : (n : ℕ) (text : List ℕ) → take (n - n) (drop n text) ≡ []
no_octets n text = let none : n - n ≡ 0 = omega arith in ap (λ k. take k (drop n text)) none

pub more_front : (from : ℕ) (edits : List Edit) (edit : Edit) (text : List ℕ) → front from (edits ++ edit ∷ []) edit.to text ≡ front from edits edit.from text ++ edit.octets.items
more_front from [] edit text =
    let all = take (edit.from - from) (drop from text) ++ edit.octets.items in
    ap (λ l. all ++ l) (no_octets edit.to text) ∙ append-nil all
more_front from (e ∷ edits) edit text =
    let all = take (e.from - from) (drop from text) ++ e.octets.items in
    ap (λ l. all ++ l) (more_front e.to edits edit text) ∙ sym (append_assoc all (front e.to edits edit.from text) edit.octets.items)

-- some octets more that stay
further_octets : (from to k : ℕ) (text : List ℕ) → from ≤ to → take (to + k - from) (drop from text) ≡ take (to - from) (drop from text) ++ take k (drop to text)
further_octets from to k text below =
    let split : to + k - from ≡ (to - from) + k = omega (arith, below) in
    let here : from + (to - from) ≡ to = omega (arith, below) in
    ap (λ n. take n (drop from text)) split
    ∙ take-add (to - from) k (drop from text)
    ∙ ap (λ l. take (to - from) (drop from text) ++ take k l) (drop-drop (to - from) from text ∙ ap (λ n. drop n text) here)

pub longer_front : (from : ℕ) (edits : List Edit) (to k : ℕ) (text : List ℕ) → AreInOrder from edits to → front from edits (to + k) text ≡ front from edits to text ++ take k (drop to text)
longer_front from [] to k text below = further_octets from to k text below
longer_front from (edit ∷ edits) to k text (below, fits, rest) =
    let all = take (edit.from - from) (drop from text) ++ edit.octets.items in
    ap (λ l. all ++ l) (longer_front edit.to edits to k text rest) ∙ sym (append_assoc all (front edit.to edits to text) (take k (drop to text)))

-- a text with edits is its front with what stands after it
pub front_behind : (from : ℕ) (edits : List Edit) (to : ℕ) (text : List ℕ) → AreInOrder from edits to → applied from edits text ≡ front from edits to text ++ drop to text
front_behind from [] to text below =
    let here : from + (to - from) ≡ to = omega (arith, below) in
    sym (take-append-drop (to - from) (drop from text)) ∙ ap (λ l. take (to - from) (drop from text) ++ l) (drop-drop (to - from) from text ∙ ap (λ n. drop n text) here)
front_behind from (edit ∷ edits) to text (below, fits, rest) =
    let all = take (edit.from - from) (drop from text) ++ edit.octets.items in
    ap (λ l. all ++ l) (front_behind edit.to edits to text rest) ∙ sym (append_assoc all (front edit.to edits to text) (drop to text))

-- the edits so far make the front of one text of that of another
abbrev pub SoFar : List ℕ → List Edit → List ℕ → ℕ → ℕ → Type 0
SoFar text edits other from place = AreInOrder 0 edits from × (front 0 edits from text ≡ take place other)

pub begun : (text other : List ℕ) (count : ℕ) → take count text ≡ take count other → SoFar text [] other count count
begun text other count same = let whole : count - 0 ≡ count = omega arith in (omega arith, ap (λ n. take n text) whole ∙ same)

-- and with one more, and octets that are the same after it
pub one_more : (text other : List ℕ) (edits : List Edit) (edit : Edit) (place size more : ℕ) → SoFar text edits other edit.from place → edit.from ≤ edit.to → edit.octets.items ≡ take size (drop place other)
    → take more (drop edit.to text) ≡ take more (drop (place + size) other) → SoFar text (edits ++ edit ∷ []) other (edit.to + more) (place + size + more)
one_more text other edits edit place size more (order, is) fits octets same =
    let new = edits ++ edit ∷ [] in
    let ordered = more_order 0 edits edit order fits in
    let to : front 0 new edit.to text ≡ take (place + size) other =
    more_front 0 edits edit text ∙ ap (λ l. l ++ edit.octets.items) is ∙ ap (λ l. take place other ++ l) octets ∙ sym (take-add place size other) in (
      reach 0 new edit.to (edit.to + more) ordered (omega arith),
      longer_front 0 new edit.to more text ordered ∙ ap (λ l. l ++ take more (drop edit.to text)) to ∙ ap (λ l. take (place + size) other ++ l) same ∙ sym (take-add (place + size) more other),
    )

-- until both are at their end
none_left : (n : ℕ) (xs : List ℕ) → length xs ≤ n → drop n xs ≡ []
none_left n xs past = grind (arith, common_steps)

all_taken : (n : ℕ) (xs : List ℕ) → length xs ≤ n → take n xs ≡ xs
all_taken n xs past = grind (arith, common_steps)

pub ended : (text other : List ℕ) (edits : List Edit) (from place : ℕ) → SoFar text edits other from place → from ≡ length text → length other ≤ place → IsEdited text edits other
ended text other edits from place (order, is) end past = (
  subst (AreInOrder 0 edits) end order,
  front_behind 0 edits from text order ∙ ap (λ l. front 0 edits from text ++ l) (none_left from text (omega (arith, end))) ∙ append-nil (front 0 edits from text) ∙ is ∙ all_taken place other past,
)

-- octets that are cut out of a text
pub cut : (xs : List ℕ) (at size : ℕ) (start items : List ℕ) → start ≡ [] → items ≡ start ++ slice_range xs at (at + size) → items ≡ take size (drop at xs)
cut xs at size start items none is =
    let same : at + size - at ≡ size = omega arith in
    is ∙ ap (λ l. l ++ slice_range xs at (at + size)) none ∙ ap (λ n. take n (drop at xs)) same

-- and what is left of it
pub tail : (xs : List ℕ) (at : ℕ) → slice_range xs at (length xs) ≡ drop at xs
tail xs at = all_taken (length xs - at) (drop at xs) (omega (arith, length-drop at xs))

pub same_tails : (xs ys : List ℕ) (at place more : ℕ) → take more (slice_range xs at (length xs)) ≡ take more (slice_range ys place (length ys)) → take more (drop at xs) ≡ take more (drop place ys)
same_tails xs ys at place more same = ap (take more) (sym (tail xs at)) ∙ same ∙ ap (take more) (tail ys place)

-- and an offset after some octets of it
pub within : (xs : List ℕ) (from size more : ℕ) → from + size ≤ length xs → more ≤ length (slice_range xs (from + size) (length xs)) → from + size + more ≤ length xs
within xs from size more fits is =
    let left = ap length (tail xs (from + size)) in
    omega (arith, fits, is, left, length-drop (from + size) xs)
