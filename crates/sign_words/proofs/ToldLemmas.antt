-- Findings that are told one after another.
use Rattle.std.proofs.Common.{◌≡◌, ℕ, ◌+◌, ◌<◌, ◌≤◌, List, [], ◌∷◌, ◌++◌, Result, Ok, Err, length, get_or, drop, refl, sym, ap, ◌∙◌, subst, append_assoc, append-nil}
use Rattle.std.specs.Prelude.{OnOk, codes}
use Rattle.std.proofs.lemmas.List.{at_drop_more, at_drop_all}
use Rattle.sign_words.specs.declared.findings.Finding.{Finding}
use Rattle.sign_words.specs.declared.view.Rank.{Rank}
use Rattle.sign_words.specs.declared.view.SignView.{SignView}
use Rattle.sign_words.specs.Told.{AreTold, finding_told, head_of, others_told}

-- what follows from what holds where there is a value
pub then : {T E : Type 0} (P Q : Type 0) (r : Result T E) → OnOk r P → (P → Q) → OnOk r Q
then P Q (Ok x) p f = f p
then P Q (Err e) p f = tt

-- one text is appended after another
pub joined : (a b c x y : List ℕ) → b ≡ a ++ x → c ≡ b ++ y → c ≡ a ++ (x ++ y)
joined a b c x y p q = q ∙ ap (λ l. l ++ y) p ∙ append_assoc a x y

module _ (findings : List Finding) (i : ℕ) (all : List ℕ) where
  -- one more finding is told in JSON
  pub others_on : (d : Finding) (now mid grown : List ℕ) → i < length findings → mid ≡ now ++ codes "," → grown ≡ mid ++ finding_told (get_or findings i d)
      → now ++ others_told (drop i findings) ≡ all → grown ++ others_told (drop (i + 1) findings) ≡ all
  unfolding others_told
  others_on d now mid grown within first is so_far =
      let rest = others_told (drop (i + 1) findings) in
      let one = finding_told (get_or findings i d) in
      let grown_is : grown ≡ (now ++ codes ",") ++ one = is ∙ ap (λ l. l ++ one) first in
      let regrouped : ((now ++ codes ",") ++ one) ++ rest ≡ now ++ (codes "," ++ one ++ rest) = simp append_assoc refl in
      ap (λ l. l ++ rest) grown_is ∙ regrouped ∙ ap (λ l. now ++ l) (sym (at_drop_more others_told findings i d within)) ∙ so_far

  -- no finding is left
  pub others_end : (now : List ℕ) → length findings ≤ i → now ++ others_told (drop i findings) ≡ all → now ≡ all
  unfolding others_told
  others_end now past so_far = sym (append-nil now) ∙ ap (λ l. now ++ l) (sym (at_drop_all others_told findings i past)) ∙ so_far

-- what was told of findings, the first of which were told so far
abbrev pub AreToldOn : SignView → Rank → List Finding → ℕ → List ℕ → Type 0
AreToldOn v r findings i told = (others : List ℕ) → AreTold v r (drop i findings) others → AreTold v r findings (told ++ others)

module _ (v : SignView) (r : Rank) (findings : List Finding) (i : ℕ) (told : List ℕ) (on : AreToldOn v r findings i told) where
  -- one more finding is told
  pub each_on : (d : Finding) (words : List ℕ) → i < length findings
      → AreToldOn v r findings (i + 1) (told ++ (head_of v r (get_or findings i d) ++ words ++ 10 ∷ []))
  each_on d words within others rest =
      let piece = head_of v r (get_or findings i d) ++ words ++ 10 ∷ [] in
      subst (AreTold v r findings) (sym (append_assoc told piece others))
      (on (piece ++ others) (subst (λ l. AreTold v r l (piece ++ others)) (sym (at_drop_more (λ (l : List Finding). l) findings i d within)) (words, others, refl, rest)))

  -- no finding is left
  pub each_end : length findings ≤ i → AreTold v r findings told
  each_end past =
      subst (AreTold v r findings) (append-nil told) (on [] (subst (λ l. AreTold v r l []) (sym (at_drop_all (λ (l : List Finding). l) findings i past)) refl))
