use Rattle.std.proofs.Common.{◌≡◌, ◌++◌, drop, string_bytes}
use Rattle.sign_words.specs.Told.{others_told}
use Rattle.sign_words.proofs.members.push_others.Given as goal

abbrev pub invariant-loop-finding : goal.invariant-loop-finding
invariant-loop-finding l =
    string_bytes l.text ++ others_told (drop l.finding-index l.findings) ≡ string_bytes l.initial.text ++ others_told l.findings
