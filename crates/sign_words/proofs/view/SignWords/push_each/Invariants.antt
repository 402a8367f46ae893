use Rattle.std.proofs.Common.{◌≡◌, ◌++◌, ℕ, List, string_bytes}
use Rattle.sign_words.proofs.ToldLemmas.{AreToldOn}
use Rattle.sign_words.proofs.view.SignWords.push_each.Given as goal

abbrev pub invariant-loop-finding : goal.invariant-loop-finding
invariant-loop-finding l =
    (told : List ℕ) × (string_bytes l.text ≡ string_bytes l.initial.text ++ told) × AreToldOn l.fn.self.view l.rank l.findings l.finding-index told
