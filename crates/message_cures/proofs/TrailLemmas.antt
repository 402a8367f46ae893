-- Texts that were judged and refused.
use Rattle.std.proofs.Common.{◌≡◌, ℕ, ◌+◌, false, List, [], ◌∷◌, ◌++◌, Vec, ap, ◌∙◌, arith, append_assoc}
use Rattle.std.proofs.lemmas.List.{length-append, map-append}
use Rattle.std.proofs.lemmas.List.Elements.{All-push}
use Rattle.sign_font.specs.Sign.{SignData}
use Rattle.message_cures.specs.Taking.{takes}
use Rattle.message_cures.specs.Cures.{Tries, texts}

-- one text more
pub one_text : {A : Type 0} (refused new : List (Vec ℕ A)) (text : Vec ℕ A) → new ≡ refused ++ text ∷ [] → texts new ≡ texts refused ++ text.items ∷ []
one_text refused new text is = ap texts is ∙ map-append (λ t. t.items) refused (text ∷ [])

-- is refused
pub more_tries : {A : Type 0} (sign : SignData) (old : List (List ℕ)) (refused new : List (Vec ℕ A)) (text : Vec ℕ A) (judged now next : ℕ) → Tries sign old (texts refused) judged now 0 → new ≡ refused ++ text ∷ []
    → takes sign text.items ≡ false → next ≡ now + 1 → Tries sign old (texts new) judged next 0
more_tries sign old refused new text judged now next (more, is, all, count) grown not count' =
    let size = length-append more (text.items ∷ []) in (
      more ++ text.items ∷ [],
      one_text refused new text grown ∙ ap (λ l. l ++ text.items ∷ []) is ∙ append_assoc old more (text.items ∷ []),
      All-push (λ t. takes sign t ≡ false) more text.items all not,
      omega (arith, count, count', size),
    )
