use Rattle.std.proofs.Common.{◌≡◌, true, false, suc, ◌-◌, length, refl, sym, ap, ◌∙◌, rules, arith}
use Rattle.std.proofs.lemmas.Bool.Decides.{nat_tests}
use Rattle.std.proofs.lemmas.Grind.{common_steps}
use Rattle.toml_parser.specs.Lexical.{first}
use Rattle.sign_file.specs.Nesting.{fits, is_shallow, outside}
use Rattle.sign_file.proofs.NestingLemmas.{is_over, fits_nothing, outside_over, outside_string, outside_no_string, outside_mark}
use Rattle.sign_file.proofs.nesting.deep_at.Goals as goal

pub octets-init : goal.octets-init
unfolding is_shallow
octets-init c = (
  search rules,
  record { brackets = omega arith; dots = omega arith },
  suc (length c.args.text.now),
  omega (arith, c.skip_bom-rest.ensures.within),
  rw c.skip_bom-rest.ensures.rest refl,
)

pub returns-then-octet-eq0-clause-shallow : goal.returns-then-octet-eq0-clause-shallow
returns-then-octet-eq0-clause-shallow c =
    let l = c.octets in
    let (text, within, n, room, known) = l.invariant in
    let over : is_over (first l.rest.now) ≡ true = grind (arith, nat_tests, common_steps) in
    sym (fits_nothing 3 l.nested.brackets l.nested.dots within.brackets within.dots)
    ∙ ap (fits l.nested.brackets l.nested.dots) (sym (outside_over n l.rest.now over))
    ∙ known

pub returns-in-Err-At-clause-shallow : goal.returns-in-Err-At-clause-shallow
returns-in-Err-At-clause-shallow c =
    let l = c.octets in
    let (text, within, n, room, known) = l.invariant in
    let going : is_over (first l.rest.now) ≡ false = grind (arith, nat_tests, common_steps) in
    sym (fits_nothing 3 l.nested.brackets l.nested.dots within.brackets within.dots)
    ∙ ap (fits l.nested.brackets l.nested.dots) (sym (outside_no_string n l.rest.now going (grind arith) (c.in-Err-At.ensures.value (λ memory. absurd (grind arith)))))
    ∙ known

pub octets-preserved-then-starts_string : goal.octets-preserved-then-starts_string
octets-preserved-then-starts_string c =
    let l = c.octets in
    let (text, within, n, room, known) = l.invariant in
    let going : is_over (first l.rest.now) ≡ false = grind (arith, nat_tests, common_steps) in
    let shorter = c.in-Ok.ensures.shorter in (
      search rules,
      within,
      n - 1,
      omega arith,
      ap (fits l.nested.brackets l.nested.dots) (sym (outside_string n l.rest.now _ c.in-Ok.behind.now (omega arith) going (grind arith) c.in-Ok.ensures.value)) ∙ known,
    )

pub returns-in-None-clause-shallow : goal.returns-in-None-clause-shallow
returns-in-None-clause-shallow c =
    let l = c.octets in
    let (text, within, n, room, known) = l.invariant in
    let going : is_over (first l.rest.now) ≡ false = grind (arith, nat_tests, common_steps) in
    let mark = c.mark_of-mark.result in
    let ahead = outside_mark n l.rest.now mark.0 mark.1.now (omega arith) going (grind arith) c.mark_of-mark.ensures.mark in
    sym (c.in-None.ensures.fits (outside (n - 1) mark.1.now))
    ∙ ap (fits l.nested.brackets l.nested.dots) (sym ahead)
    ∙ known

pub octets-preserved : goal.octets-preserved
octets-preserved c =
    let l = c.octets in
    let (text, within, n, room, known) = l.invariant in
    let going : is_over (first l.rest.now) ≡ false = grind (arith, nat_tests, common_steps) in
    let mark = c.mark_of-mark.result in
    let ahead = outside_mark n l.rest.now mark.0 mark.1.now (omega arith) going (grind arith) c.mark_of-mark.ensures.mark in (
      search rules,
      c.in-Some.ensures.within,
      n - 1,
      omega (arith, c.mark_of-mark.ensures.shorter),
      sym (c.in-Some.ensures.fits (outside (n - 1) mark.1.now)) ∙ ap (fits l.nested.brackets l.nested.dots) (sym ahead) ∙ known,
    )
