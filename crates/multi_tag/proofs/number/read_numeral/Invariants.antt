use Rattle.std.proofs.Common.{◌≤◌}
use Rattle.std.specs.Str.{str_to_ascii_lowercase}
use Rattle.multi_tag.proofs.CutLemmas.{HasDigits}
use Rattle.multi_tag.proofs.number.read_numeral.Given as goal

abbrev pub invariant-loop : goal.invariant-loop
invariant-loop l = record {
  digits : HasDigits l.base l.counter (str_to_ascii_lowercase l.octets) l.value (str_to_ascii_lowercase l.rest);
  least : 2 ≤ l.base;
  base : l.base ≤ 16;
  most : l.most ≤ 8;
}
