-- Parts of a text that are written.
use Rattle.std.proofs.Common.{◌≡◌, ℕ, ◌+◌, ◌-◌, ◌≤◌, List, [], ◌++◌, length, take, drop, sym, ap, ◌∙◌, arith, append_assoc, append-nil}
use Rattle.std.proofs.Math.Seq.{take-append-add}
use Rattle.std.proofs.lemmas.List.{drop-append-le, drop_all, drop_at, length-append, length-drop, length-take-le, take-append-drop, take-append-le, take-take, take_at}
use borrow.Rule.Slice.PartMut.{mid_of, put_mid}

-- the length of what is lent from a place on
pub lent_length : (at : ℕ) (old : List ℕ) → at ≤ length old → length (take (length old - at) (drop at old)) ≡ length old - at
lent_length at old within = length-take-le (length old - at) (drop at old) (let rest = length-drop at old in omega (arith, rest))

-- more is written after what is written
pub part_written : (at n : ℕ) (old new rest : List ℕ) → at ≤ length old → n ≤ length new
    → take (at + n) (take at old ++ (new ++ rest)) ≡ take at old ++ take n new
part_written at n old new rest within enough =
    ap (λ k. take (k + n) (take at old ++ (new ++ rest))) (sym (length-take-le at old within))
    ∙ take-append-add (take at old) (new ++ rest) n
    ∙ ap (λ l. take at old ++ l) (take-append-le n new rest enough)

-- room that is made keeps what is written
pub room_kept : (old new : List ℕ) (len : ℕ) → len ≤ length old → take (length old) new ≡ old → take len new ≡ take len old
room_kept old new len within kept = sym (take-take len (length old) new within) ∙ ap (take len) kept

-- what is written after what there is comes to its end, where room was made for it
pub written_in_room : (items kept lent new rest behind more : List ℕ) (len n count : ℕ) → len ≤ length items → take (length items) kept ≡ items
    → lent ≡ kept → count ≡ length lent → len + n ≤ length lent → n ≤ length new → take n new ≡ more
    → take (len + n) (take count (take len lent ++ (new ++ rest) ++ behind)) ≡ take len items ++ more
written_in_room items kept lent new rest behind more len n count within room is_lent all long enough is_more =
    let written = take len lent ++ (new ++ rest) in
    let front = length-take-le len lent (omega (arith, long)) in
    let both = length-append (take len lent) (new ++ rest) in
    let two = length-append new rest in
    let same : take len lent ≡ take len items = ap (take len) is_lent ∙ room_kept items kept len within room in
    take-take (len + n) count (written ++ behind) (omega (arith, all, long))
    ∙ take-append-le (len + n) written behind (omega (arith, front, both, two, enough))
    ∙ part_written len n lent new rest (omega (arith, long)) enough
    ∙ ap (λ l. l ++ take n new) same ∙ ap (λ l. take len items ++ l) is_more

-- a piece is written over a part of the rest of a text
pub put_more : (before piece text new rest : List ℕ) (a k n : ℕ) → text ≡ before ++ rest → length before ≡ a → length piece ≡ n → n ≤ k → k ≤ length rest
    → new ≡ piece ++ drop n (mid_of a k text) → put_mid a k text new ≡ (before ++ piece) ++ drop n rest
put_more before piece text new rest a k n is front size within there written =
    let first : take a text ≡ before = ap (take a) is ∙ take_at before rest a front in
    let behind : drop a text ≡ rest = ap (drop a) is ∙ drop_at before rest a front in
    let whole : drop n (take k rest) ++ drop k rest ≡ drop n rest =
    sym (drop-append-le n (take k rest) (drop k rest) (omega (arith, within, length-take-le k rest there))) ∙ ap (drop n) (take-append-drop k rest) in
    ap (λ l. take a text ++ (l ++ drop k (drop a text))) written
    ∙ ap (λ l. l ++ ((piece ++ drop n (take k (drop a text))) ++ drop k (drop a text))) first
    ∙ ap (λ l. before ++ ((piece ++ drop n (take k l)) ++ drop k l)) behind
    ∙ ap (λ l. before ++ l) (append_assoc piece (drop n (take k rest)) (drop k rest) ∙ ap (λ l. piece ++ l) whole)
    ∙ sym (append_assoc before piece (drop n rest))

-- and over the whole of it
pub put_whole : (before piece text new rest : List ℕ) (a k : ℕ) → text ≡ before ++ rest → length before ≡ a → length piece ≡ k → k ≤ length rest
    → new ≡ piece → put_mid a k text new ≡ (before ++ piece) ++ drop k rest
put_whole before piece text new rest a k is front size there written =
    let behind : drop a text ≡ rest = ap (drop a) is ∙ drop_at before rest a front in
    let none : drop k (mid_of a k text) ≡ [] = ap (λ l. drop k (take k l)) behind ∙ drop_all k (take k rest) (omega (arith, length-take-le k rest there)) in
    put_more before piece text new rest a k k is front size (omega arith) there (written ∙ sym (append-nil piece) ∙ ap (λ l. piece ++ l) (sym none))
