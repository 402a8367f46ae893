-- Answers that wait to be written.
use Rattle.std.proofs.Common.{◌≡◌, ℕ, List, [], ◌++◌, ap, ◌∙◌}

-- an answer that was begun is whole, and comes after those before it
pub answer_added : (ended whole begun ready none text : List ℕ) → ended ≡ whole ++ begun → whole ≡ ready → begun ≡ none ++ text → none ≡ [] → ended ≡ ready ++ text
answer_added ended whole begun ready none text ends same grown is =
    ends ∙ ap (λ l. l ++ begun) same ∙ ap (λ l. ready ++ l) (grown ∙ ap (λ l. l ++ text) is)
