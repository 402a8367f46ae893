use Rattle.std.proofs.Common.{◌≡◌, ◌+◌, ◌-◌, ◌*◌, ◌/◌, ◌==◌, ◌&&◌, ◌∙◌, Bool, false, ℕ, List, ap, arith, drop, length, refl, sym, take}
use Rattle.std.specs.List.{list_all}
use Rattle.std.proofs.lemmas.List.{take-append-drop, take_all}
use Rattle.std.proofs.lemmas.List.Folds.{list_all-append}
use Rattle.page_picture.proofs.RowLemmas.{same_more}
use Rattle.page_picture.proofs.write.is_dark.Goals as goal

abbrev all_dark : List ℕ → Bool
all_dark octets = list_all (λ octet. octet == 0) octets

pub returns-then-not-is_word_of : goal.returns-then-not-is_word_of
returns-then-not-is_word_of c =
    let octets = c.args.octets.now in
    let l = c.loop-word in
    let part = take (8 * l.word + 8 - 8 * l.word) (drop (8 * l.word) octets) in
    let n = 8 * (l.word + 1) in
    let more = same_more 0 octets part (8 * l.word) 8 n (omega arith) (ap (λ k. take k (drop (8 * l.word) octets)) (let eight : 8 * l.word + 8 - 8 * l.word ≡ 8 = omega arith in eight)) in
    let lit : all_dark (take n octets) ≡ false = more ∙ ap (λ b. b && all_dark part) l.invariant ∙ sym c.is_word_of.ensures ∙ c.if-not-is_word_of.true in
    sym (ap all_dark (sym (take-append-drop n octets)) ∙ list_all-append (λ octet. octet == 0) (take n octets) (drop n octets)
    ∙ ap (λ b. b && all_dark (drop n octets)) lit)

pub loop-word-preserved : goal.loop-word-preserved
loop-word-preserved c =
    let octets = c.args.octets.now in
    let l = c.loop-word in
    let part = take (8 * l.word + 8 - 8 * l.word) (drop (8 * l.word) octets) in
    same_more 0 octets part (8 * l.word) 8 (8 * (l.word + 1)) (omega arith) (ap (λ k. take k (drop (8 * l.word) octets)) (let eight : 8 * l.word + 8 - 8 * l.word ≡ 8 = omega arith in eight))
    ∙ ap (λ b. b && all_dark part) l.invariant ∙ sym c.is_word_of.ensures ∙ c.if-not-is_word_of.false

pub returns : goal.returns
returns c =
    let octets = c.args.octets.now in
    let l = c.loop-word in
    let words = length octets / 8 in
    let last = c.loop-word-test.false in
    let most = l.auto.word-end in
    let all : 8 * words ≡ 8 * l.word = omega (arith, last, most) in
    let n = length octets - 8 * words in
    let part = take n (drop (8 * words) octets) in
    c.has_no_bit.ensures
    ∙ sym (ap all_dark (sym (take_all (length octets) octets (omega arith)))
    ∙ same_more 0 octets part (8 * words) n (length octets) (omega arith) refl
    ∙ ap (λ k. all_dark (take k octets) && all_dark part) all
    ∙ ap (λ b. b && all_dark part) l.invariant)
