-- The first lines of an explanation, written at once where their numbers have one digit.
use Rattle.std.proofs.Common.{◌≡◌, ℕ, ◌+◌, ◌<◌, ◌++◌, ◌∷◌, ap, arith, codes, false, refl, sym}
use Rattle.std.specs.Prelude.{◌==◌}
use Rattle.std.proofs.lemmas.Fmt.{decimal_digit}
use Rattle.message_report.specs.Phrases.{accepted_text, head_text}

-- the head of one of the first nine pages, of at most nine
pub short_head : (page pages : ℕ) → page < 9 → pages < 10 → codes "page " ++ (49 + page) ∷ codes " of " ++ (48 + pages) ∷ codes ", " ≡ head_text page pages
unfolding head_text
short_head page pages few less =
    let first : 49 + page ≡ 48 + (page + 1) = omega arith in
    rw (decimal_digit (page + 1) (omega (arith, few)), decimal_digit pages less)
    (ap (λ n. codes "page " ++ n ∷ codes " of " ++ (48 + pages) ∷ codes ", ") first)

-- the number of one page
pub one_page : codes "accepted: 1 page\n" ≡ accepted_text 1
unfolding accepted_text
one_page = ap (λ l. codes "accepted: " ++ l ++ codes " page\n") (sym (decimal_digit 1 (omega arith)))

-- the number of at most nine pages, but not one
pub few_pages : (pages : ℕ) → (pages == 1) ≡ false → pages < 10 → codes "accepted: " ++ (48 + pages) ∷ codes " pages\n" ≡ accepted_text pages
unfolding accepted_text
few_pages pages other few = rw (decimal_digit pages few, other) refl
