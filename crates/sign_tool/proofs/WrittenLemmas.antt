-- What is written at the front of octets that have room after it.
use Rattle.std.proofs.Common.{◌≡◌, ℕ, ◌+◌, ◌≤◌, List, ◌++◌, length, take, drop, sym, ap, ◌∙◌, arith}
use Rattle.page_picture.proofs.PartLemmas.{written_in_room}
use Rattle.std.proofs.lemmas.List.{drop-append-le, length-take-le, take-append-le, take-take}

-- what was begun has that at its end
pub begun_more : (old new more : List ℕ) (end : ℕ) → end ≤ length old → new ≡ old ++ more → drop end new ≡ drop end old ++ more
begun_more old new more end within is = ap (drop end) is ∙ drop-append-le end old more within

pub whole_kept : (old new more : List ℕ) (end : ℕ) → end ≤ length old → new ≡ old ++ more → take end new ≡ take end old
whole_kept old new more end within is = ap (take end) is ∙ take-append-le end old more within

-- what is written after what there is of an answer comes to its end, where room was made for it
pub grown : (items kept lent new rest behind begun more : List ℕ) (end len n count : ℕ) → end ≤ len → len ≤ length items
    → take (length items) kept ≡ items → lent ≡ kept → count ≡ length lent → len + n ≤ length lent → n ≤ length new
    → begun ≡ drop end (take len items) → take n new ≡ more
    → drop end (take (len + n) (take count (take len lent ++ (new ++ rest) ++ behind))) ≡ begun ++ more
grown items kept lent new rest behind begun more end len n count in_order within room is_lent all long enough is_begun is_more =
    let there = length-take-le len items within in
    ap (drop end) (written_in_room items kept lent new rest behind more len n count within room is_lent all long enough is_more)
    ∙ drop-append-le end (take len items) more (omega (arith, there, in_order)) ∙ ap (λ l. l ++ more) (sym is_begun)

-- the same where the first few of some octets are more, for which there was room
pub few_grown : (items kept lent new rest behind begun few : List ℕ) (end len n N count : ℕ) → end ≤ len → len ≤ length items
    → take (length items) kept ≡ items → lent ≡ kept → count ≡ length lent → len + N ≤ length lent → N ≤ length new → n ≤ N
    → begun ≡ drop end (take len items) → take N new ≡ few
    → drop end (take (len + n) (take count (take len lent ++ (new ++ rest) ++ behind))) ≡ begun ++ take n few
few_grown items kept lent new rest behind begun few end len n N count in_order within room is_lent all long enough fewer is_begun is_few =
    grown items kept lent new rest behind begun (take n few) end len n count in_order within room is_lent all (omega (arith, long, fewer)) (omega (arith, enough, fewer)) is_begun
    (sym (take-take n N new fewer) ∙ ap (take n) is_few)
