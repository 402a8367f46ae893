-- Lines of words, and when they begin as the line of a verdict does.
use Rattle.std.proofs.Common.{◌≡◌, ◌≢◌, ◌+◌, ◌<◌, ℕ, Bool, true, false, nat_lt, cond, List, [], ◌∷◌, ◌++◌, codes, decimal, length, take, refl, sym, ap, ◌∙◌, append_assoc, append-nil, get_or, subst}
use Rattle.std.proofs.lemmas.List.{take_more}
use Rattle.std.proofs.lemmas.List.Elements.{All-append}
use Rattle.message_words.specs.Codes.{code_text}
use Rattle.message_words.specs.declared.warnings.Warning.{Warning}
use Rattle.message_report.specs.Notes.{AreWarned, flash_text, warned_text}
use Rattle.octet_text.proofs.TextLemmas.{grown}
use Rattle.message_report.specs.Words.{GrowsByLineOf, IsOneLine, is_head}
use Rattle.message_report.proofs.ExplanationLemmas.{feedless}

-- after a space none does
pub spaced : (line : List ℕ) → is_head (32 ∷ line) ≡ false
spaced [] = refl
spaced (a ∷ []) = refl
spaced (a ∷ b ∷ []) = refl
spaced (a ∷ b ∷ c ∷ []) = refl
spaced (a ∷ b ∷ c ∷ d ∷ []) = refl
spaced (a ∷ b ∷ c ∷ d ∷ e ∷ rest) = refl

-- the first octets begin as all do
pub front_head : (octets : List ℕ) → is_head (take 76 octets ++ cond (nat_lt 76 (length octets)) (codes " ..") []) ≡ is_head octets
front_head [] = refl
front_head (a ∷ []) = refl
front_head (a ∷ b ∷ []) = refl
front_head (a ∷ b ∷ c ∷ []) = refl
front_head (a ∷ b ∷ c ∷ d ∷ []) = refl
front_head (a ∷ b ∷ c ∷ d ∷ e ∷ []) = refl
front_head (a ∷ b ∷ c ∷ d ∷ e ∷ f ∷ rest) = refl

-- one more warning
more_warned : (warnings : List Warning) (next : Warning) (told words : List ℕ) → AreWarned warnings told → IsOneLine words
    → AreWarned (warnings ++ next ∷ []) (told ++ warned_text next.at (code_text next.code) words)
more_warned [] next told words none one =
    (words, [], one, refl, ap (λ l. l ++ warned_text next.at (code_text next.code) words) none ∙ sym (append-nil (warned_text next.at (code_text next.code) words)))
more_warned (warning ∷ warnings) next told words (first, rest, is, are, all) one =
    let last = warned_text next.at (code_text next.code) words in
    (first, rest ++ last, is, more_warned warnings next rest words are one, ap (λ l. l ++ last) all ∙ append_assoc (warned_text warning.at (code_text warning.code) first) rest last)

pub warned_more : (warnings : List Warning) (i : ℕ) (next : Warning) (told words : List ℕ) → i < length warnings → next ≡ get_or warnings i next → AreWarned (take i warnings) told → IsOneLine words
    → AreWarned (take (i + 1) warnings) (told ++ warned_text next.at (code_text next.code) words)
warned_more warnings i next told words below is are one =
    let grows : take (i + 1) warnings ≡ take i warnings ++ next ∷ [] = take_more warnings i next below ∙ ap (λ w. take i warnings ++ w ∷ []) (sym is) in
    subst (λ ws. AreWarned ws (told ++ warned_text next.at (code_text next.code) words)) (sym grows) (more_warned (take i warnings) next told words are one)

-- three pieces, after another or as one
pub as_one : (a b c d : List ℕ) → a ++ b ++ c ++ d ≡ a ++ (b ++ c ++ d)
as_one a b c d = append_assoc (a ++ b) c d ∙ append_assoc a b (c ++ d) ∙ ap (λ l. a ++ l) (sym (append_assoc b c d))

-- four pieces, after another or as one
pub after_all : (a b c d e : List ℕ) → a ++ b ++ c ++ d ++ e ≡ a ++ (b ++ c ++ d ++ e)
after_all a b c d e = append_assoc (a ++ b ++ c) d e ∙ append_assoc (a ++ b) c (d ++ e) ∙ append_assoc a b (c ++ (d ++ e)) ∙ ap (λ l. a ++ l) (sym (append_assoc (b ++ c) d e ∙ append_assoc b c (d ++ e)))

-- what tells that more octets follow, in a line
more_in_line : (more : Bool) → IsOneLine (cond more (codes " ..") [])
more_in_line true = feedless (codes " ..") refl
more_in_line false = feedless [] refl

-- a message that is shown as it is
pub plain_line : (message start one two three front : List ℕ) (more : Bool) → front ≡ take 76 message → more ≡ nat_lt 76 (length message) → IsOneLine front → one ≡ start ++ front
    → two ≡ one ++ cond more (codes " ..") [] → three ≡ two ++ 10 ∷ [] → GrowsByLineOf message start three
plain_line message start one two three front more is long plain first second third =
    let rest = cond more (codes " ..") [] in
    let line = front ++ rest in
    let same : is_head line ≡ is_head message = ap (λ l. is_head (l ++ rest)) is ∙ ap (λ b. is_head (take 76 message ++ cond b (codes " ..") [])) long ∙ front_head message in
    (line, (All-append (λ c. c ≢ 10) front rest plain (more_in_line more), λ begins. sym same ∙ begins), grown start two three line (10 ∷ []) _ (grown start one two front rest line first second refl) third refl)

-- that text flashes is told in three pieces
pub flash_is : (phase : ℕ) (before behind : List ℕ) → before ≡ codes "text flashes, and is drawn as it is " → behind ≡ codes " tenths of a second after its page began\n"
    → before ++ (decimal phase ++ (behind ++ [])) ≡ flash_text phase
flash_is phase before behind one two =
    let front : List ℕ = codes "text flashes, and is drawn as it is " in
    let last : List ℕ = codes " tenths of a second after its page began\n" in
    ap (λ l. l ++ (decimal phase ++ (behind ++ []))) one ∙ ap (λ l. front ++ (decimal phase ++ l)) (append-nil behind ∙ two) ∙ sym (append_assoc front (decimal phase) last)
