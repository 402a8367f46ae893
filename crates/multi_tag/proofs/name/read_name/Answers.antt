use Rattle.std.proofs.Common.{arith}
use Rattle.std.proofs.lemmas.Bool.Decides.{nat_tests}
use Rattle.std.proofs.lemmas.List.{get_or_past}
use Rattle.multi_tag.proofs.NameLemmas.{no_short_name, no_name_of, other_third}
use Rattle.multi_tag.proofs.name.read_name.Goals.{in_default-2-via-in-78+in_default, in_default-2-via-in-74+in_default, in_default-2-via-in-70+in_default, in_default-2-via-in-83+in_default, in_default-2-via-in-80+in_default, in_default-2-via-in-67+in_default, in_default-2-via-in-84+in_default, in_default-2-via-in-72+in_default, in_default-2-via-in-47+in-83+then-this-lt1, in_default-2-via-in-47+in-83+else-this-lt1+in_default-1, in_default-2-via-in-47+in-70+then-this-lt1-2, in_default-2-via-in-47+in-70+else-this-lt1-2+in_default-1, in_default-2-via-in-47+in_default, in_default-2-via-in_default}
use Rattle.multi_tag.proofs.name.read_name.Goals as goal

pub returns-in_default-clause-none : goal.returns-in_default-clause-none
returns-in_default-clause-none c = no_short_name _ c.in_default.len_below

pub returns-in_default-2-clause-none : goal.returns-in_default-2-clause-none
returns-in_default-2-clause-none c =
    no_name_of c.args.body.now c.in-len2-up.len_at_least (elim c.in_default-2.branch [
      | in_default-2-via-in-78+in_default w ↦ grind (arith, nat_tests)
      | in_default-2-via-in-74+in_default w ↦ grind (arith, nat_tests)
      | in_default-2-via-in-70+in_default w ↦ grind (arith, nat_tests)
      | in_default-2-via-in-83+in_default w ↦ grind (arith, nat_tests)
      | in_default-2-via-in-80+in_default w ↦ grind (arith, nat_tests)
      | in_default-2-via-in-67+in_default w ↦ grind (arith, nat_tests)
      | in_default-2-via-in-84+in_default w ↦ grind (arith, nat_tests)
      | in_default-2-via-in-72+in_default w ↦ grind (arith, nat_tests)
      | in_default-2-via-in-47+in-83+then-this-lt1 w ↦ grind (arith, nat_tests, get_or_past, other_third)
      | in_default-2-via-in-47+in-83+else-this-lt1+in_default-1 w ↦ grind (arith, nat_tests, other_third)
      | in_default-2-via-in-47+in-70+then-this-lt1-2 w ↦ grind (arith, nat_tests, get_or_past, other_third)
      | in_default-2-via-in-47+in-70+else-this-lt1-2+in_default-1 w ↦ grind (arith, nat_tests, other_third)
      | in_default-2-via-in-47+in_default w ↦ grind (arith, nat_tests)
      | in_default-2-via-in_default w ↦ grind (arith, nat_tests)
    ])
