-- Marks that are written into a line.
use Rattle.std.proofs.Common.{◌≡◌, ℕ, suc, ◌+◌, ◌<◌, List, [], ◌∷◌, ◌++◌, length, map, take, drop, get_or, set, refl, sym, ap, ◌∙◌, arith}
use Rattle.std.specs.List.{range_with_len}
use Rattle.std.proofs.lemmas.List.{drop-drop, drop-set-lt, map-append, take_more, take_more_set}
use Rattle.message_report.specs.Pictures.{mark}

-- one more mark is written
pub mark_written : (line colours : List ℕ) (place colour : ℕ) → place < length line → place < length colours → colour ≡ mark (get_or colours place 0)
    → take place line ≡ map mark (take place colours) → take (place + 1) (set line place colour) ≡ map mark (take (place + 1) colours)
mark_written line colours place colour room there is so_far =
    take_more_set line place colour room
    ∙ ap (λ l. l ++ colour ∷ []) so_far
    ∙ ap (λ c. map mark (take place colours) ++ c ∷ []) is
    ∙ sym (map-append mark (take place colours) (get_or colours place 0 ∷ []))
    ∙ ap (map mark) (sym (take_more colours place 0 there))

-- and the octets after it stay
pub mark_behind : (line old : List ℕ) (place colour : ℕ) → drop place line ≡ drop place old → drop (place + 1) (set line place colour) ≡ drop (place + 1) old
mark_behind line old place colour same =
    drop-set-lt (place + 1) line place colour (omega arith) ∙ sym (drop-drop 1 place line) ∙ ap (drop 1) same ∙ drop-drop 1 place old

-- the marks of a list of colours are those of its places
pub marks_by_place : (colour_at : ℕ → ℕ) (from : ℕ) (colours : List ℕ) → ((k : ℕ) → k < length colours → get_or colours k 0 ≡ colour_at (from + k))
    → map mark colours ≡ map (λ k. mark (colour_at k)) (range_with_len from (length colours))
marks_by_place colour_at from [] same = refl
marks_by_place colour_at from (colour ∷ colours) same =
    let first : from + 0 ≡ from = omega arith in
    ap (λ c. mark c ∷ map mark colours) (same 0 (omega arith) ∙ ap colour_at first)
    ∙ ap (λ l. mark (colour_at from) ∷ l) (marks_by_place colour_at (from + 1) colours (λ k below.
    let next : from + (k + 1) ≡ from + 1 + k = omega arith in
    let more : k + 1 ≡ suc k = omega arith in
    ap (λ n. get_or (colour ∷ colours) n 0) (sym more) ∙ same (k + 1) (omega arith) ∙ ap colour_at next))
