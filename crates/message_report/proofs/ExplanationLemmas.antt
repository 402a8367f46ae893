-- The parts of an explanation, one after the other.
use Rattle.std.proofs.Common.{◌≡◌, ℕ, suc, ◌+◌, ◌%◌, ◌<◌, ◌^◌, ◌≤◌, ◌≢◌, Bool, false, ◌||◌, ◌==◌, List, [], ◌∷◌, ◌++◌, length, refl, sym, ap, ◌∙◌, arith, subst, append_assoc, append-nil, decimal, min, None, get_or, take}
use Rattle.std.proofs.lemmas.List.{take_more}
use Rattle.std.proofs.lemmas.List.Elements.{All-append, All-cons, All-nil, All-push}
use Rattle.std.proofs.lemmas.Bool.{eqb-false, le-ltb, lt-ltb, or_parts}
use Rattle.std.proofs.lemmas.Fmt.{decimal_by_steps}
use Rattle.sign_font.specs.Sign.{SignData}
use Rattle.multi_meaning.specs.Meaning.{meanings}
use Rattle.multi_meaning.specs.Verdict.{Accepted, IsVerdict, Verdict, pages_of, verdict}
use Rattle.multi_meaning.proofs.VerdictLemmas.{accepted_is, one_verdict}
use Rattle.octet_text.proofs.TextLemmas.{grown}
use Rattle.message_cures.specs.Cures.{Mends}
use Rattle.message_cures.specs.declared.mending.Outcome.{Outcome}
use Rattle.message_report.specs.Notes.{AreWarned}
use Rattle.message_report.specs.Words.{GrowsByLine, GrowsInLine, IsLineOf, IsOneLine}
use Rattle.message_report.specs.declared.format.Telling.{Telling}
use Rattle.message_report.specs.declared.format.Told.{Told}
use Rattle.message_words.specs.Codes.{code_text}
use Rattle.message_words.specs.declared.warnings.Warning.{Warning}
use Rattle.message_report.specs.Explanation.{Explains, HasPages, IsWarned, IsWarnings, PassesOver, Tells, TellsTooLong, warning_text}
use Rattle.message_report.specs.Phrases.{accepted_text, head_text, kind_of, line_head}

-- an accepted string has the pages that its items begin
pub pages_are : (sign : SignData) (octets : List ℕ) (pages : ℕ) → IsVerdict sign octets (Accepted pages) → length octets < 2 ^ 32 → pages ≡ pages_of (meanings octets)
pages_are sign octets pages is short = (accepted_is sign octets pages is short).1

-- a line goes on with one more octet that is no line feed
pub line_more : (start now new line : List ℕ) (c : ℕ) → IsOneLine line → now ≡ start ++ line → new ≡ now ++ c ∷ [] → c ≢ 10 → (more : List ℕ) × IsOneLine more × (new ≡ start ++ more)
line_more start now new line c is so_far next other = (line ++ c ∷ [], All-push (λ n. n ≢ 10) line c is other, grown start now new line (c ∷ []) _ so_far next refl)

-- a line ends with more octets that are no line feed
pub line_joined : (start now new line rest : List ℕ) → IsOneLine line → IsOneLine rest → now ≡ start ++ line → new ≡ now ++ (rest ++ 10 ∷ []) → GrowsByLine start new
line_joined start now new line rest is other so_far next =
    (line ++ rest, All-append (λ n. n ≢ 10) line rest is other, grown start now new line (rest ++ 10 ∷ []) _ so_far next (append_assoc line rest (10 ∷ [])))

-- what is appended after a line comes after its line feed
pub behind_line : (now next last words rest : List ℕ) → next ≡ now ++ (words ++ 10 ∷ []) → last ≡ next ++ rest → last ≡ now ++ words ++ 10 ∷ rest
behind_line now next last words rest first second =
    second ∙ ap (λ l. l ++ rest) (first ∙ sym (append_assoc now words (10 ∷ []))) ∙ append_assoc (now ++ words) (10 ∷ []) rest

-- a piece, a line and a piece that are appended one after the other
pub three_more : (start now one two three shown head words page : List ℕ) → now ≡ start ++ shown → one ≡ now ++ head → two ≡ one ++ (words ++ 10 ∷ []) → three ≡ two ++ page
    → three ≡ start ++ (shown ++ head ++ words ++ 10 ∷ page)
three_more start now one two three shown head words page so_far first second third =
    grown start (one ++ words) three (shown ++ head ++ words) (10 ∷ page) _ (grown start one (one ++ words) (shown ++ head) words _ (grown start now one shown head _ so_far first refl) refl refl) (behind_line one two three words page second third) refl

-- an accepted message on which there are warnings isn't passed over
pub passes_over : (octets : List ℕ) (line pages : ℕ) (warnings : List Warning) (front told : List ℕ) → (length warnings ≡ 0 → ⊥) → IsLineOf octets front → AreWarned warnings told
    → PassesOver octets line pages warnings (line_head line ++ accepted_text pages ++ front ++ 10 ∷ told ++ 10 ∷ [])
passes_over octets line pages [] front told some of are = absurd (some refl)
passes_over octets line pages (warning ∷ warnings) front told some of are = (front, told, of, are, refl)

pub passes_nothing : (octets : List ℕ) (line pages : ℕ) (warnings : List Warning) → length warnings ≡ 0 → PassesOver octets line pages warnings []
passes_nothing octets line pages [] none = refl
passes_nothing octets line pages (warning ∷ warnings) none = absurd (omega (arith, none))

-- one more page comes after those before it
pub pages_more : (picture : ℕ → List ℕ) (pages page : ℕ) (shown words : List ℕ) → HasPages picture pages page shown → IsOneLine words
    → HasPages picture pages (page + 1) (shown ++ head_text page pages ++ words ++ 10 ∷ picture page)
pages_more picture pages page shown words has line =
    let next : suc page ≡ page + 1 = omega arith in
    let more : HasPages picture pages (suc page) (shown ++ head_text page pages ++ words ++ 10 ∷ picture page) = (shown, words, has, line, refl) in
    subst (λ n. HasPages picture pages n (shown ++ head_text page pages ++ words ++ 10 ∷ picture page)) next more

-- a message of at most 4,096 octets is explained by the one verdict on it
pub explained : (telling : Telling) (sign : SignData) (most : ℕ) (name octets message : List ℕ) (line : ℕ) (v : Verdict) (outcome : Outcome) (warnings : List Warning) (kept : Told) (text : List ℕ) → length message ≤ 4096 → octets ≡ message
    → IsVerdict sign octets v → Mends sign message outcome → kept.proposal ≡ kind_of outcome → IsWarned telling.warnings sign most message v warnings → kept.warnings ≡ length warnings
    → Tells telling telling.format sign name octets line v outcome warnings text → Explains telling sign most name line message kept text
explained telling sign most name octets message line v outcome warnings kept text short same is mends keeps warned count tells =
    let on_line : IsVerdict sign message v = subst (λ l. IsVerdict sign l v) same is in
    let one : v ≡ verdict sign message = (one_verdict sign message v).0 on_line in
    let tells_line : Tells telling telling.format sign name message line v outcome warnings text = subst (λ l. Tells telling telling.format sign name l line v outcome warnings text) same tells in
    rw (le-ltb _ _ short) (outcome, warnings, mends, keeps, subst (λ w. IsWarned telling.warnings sign most message w warnings) one warned, count, subst (λ w. Tells telling telling.format sign name message line w outcome warnings text) one tells_line)

-- a message with more octets isn't judged
pub unjudged : (telling : Telling) (sign : SignData) (most : ℕ) (name message : List ℕ) (line : ℕ) (kept : Told) (text : List ℕ) → 4096 < length message → kept.proposal ≡ None → kept.warnings ≡ 0
    → TellsTooLong telling.format name message line text → Explains telling sign most name line message kept text
unjudged telling sign most name message line kept text long none zero tells = rw (lt-ltb _ _ long) (none, zero, tells)

-- one more warning
more_lines : (name : List ℕ) (line : ℕ) (warnings : List Warning) (next : Warning) (told words : List ℕ) → IsWarnings name line warnings told → IsOneLine words
    → IsWarnings name line (warnings ++ next ∷ []) (told ++ warning_text name line (min next.at 4096) (code_text next.code) words)
more_lines name line [] next told words none one =
    let last = warning_text name line (min next.at 4096) (code_text next.code) words in
    (words, [], one, refl, ap (λ l. l ++ last) none ∙ sym (append-nil last))
more_lines name line (warning ∷ warnings) next told words (first, rest, is, are, all) one =
    let last = warning_text name line (min next.at 4096) (code_text next.code) words in
    (first, rest ++ last, is, more_lines name line warnings next rest words are one, ap (λ l. l ++ last) all ∙ append_assoc (warning_text name line (min warning.at 4096) (code_text warning.code) first) rest last)

pub warnings_more : (name : List ℕ) (line : ℕ) (warnings : List Warning) (i : ℕ) (next : Warning) (told words : List ℕ) → i < length warnings → next ≡ get_or warnings i next → IsWarnings name line (take i warnings) told → IsOneLine words
    → IsWarnings name line (take (i + 1) warnings) (told ++ warning_text name line (min next.at 4096) (code_text next.code) words)
warnings_more name line warnings i next told words below is are one =
    let grows : take (i + 1) warnings ≡ take i warnings ++ next ∷ [] = take_more warnings i next below ∙ ap (λ w. take i warnings ++ w ∷ []) (sym is) in
    subst (λ ws. IsWarnings name line ws (told ++ warning_text name line (min next.at 4096) (code_text next.code) words)) (sym grows) (more_lines name line (take i warnings) next told words are one)

-- words have no line feed if none is found in them
abbrev pub has_feed : List ℕ → Bool
has_feed [] = false
has_feed (c ∷ words) = (c == 10) || has_feed words

pub feedless : (words : List ℕ) → has_feed words ≡ false → IsOneLine words
feedless [] none = All-nil (λ c. c ≢ 10)
feedless (c ∷ words) none = let parts = or_parts (c == 10) (has_feed words) none in All-cons (λ c. c ≢ 10) c words (eqb-false c 10 parts.0) (feedless words parts.1)

-- and no number has one
pub number_in_line : (n : ℕ) → n < 2 ^ 64 → IsOneLine (decimal n)
number_in_line n small =
    decimal_by_steps (λ n words. IsOneLine words)
    (λ n few. All-cons (λ c. c ≢ 10) (48 + n) [] (λ e. omega (arith, e)) (All-nil (λ c. c ≢ 10)))
    (λ n words more is. All-push (λ c. c ≢ 10) words (48 + n % 10) is (λ e. omega (arith, e)))
    n small

-- what is appended in a line, piece by piece
pub in_line_more : (start now new more : List ℕ) → GrowsInLine start now → IsOneLine more → new ≡ now ++ more → GrowsInLine start new
in_line_more start now new more (line, is, so_far) other next =
    (line ++ more, All-append (λ n. n ≢ 10) line more is other, grown start now new line more _ so_far next refl)
