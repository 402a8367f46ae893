use Rattle.std.proofs.Common.{◌≡◌, ◌+◌, ◌≤◌, ◌++◌}
use Rattle.message_words.specs.Characters.{characters_below, open_run, run_numbers}
use Rattle.message_words.proofs.characters.runs_of.Given as goal

abbrev pub invariant-loop-last : goal.invariant-loop-last
invariant-loop-last l = record {
  so_far : run_numbers l.runs.items ++ open_run l.first (l.last + 1) ≡ characters_below l.sign l.font (l.last + 1);
  few : l.first ≤ l.last;
}
