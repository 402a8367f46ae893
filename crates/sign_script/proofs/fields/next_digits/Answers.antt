use Rattle.std.proofs.Common.{◌≡◌, ◌≤◌, ◌-◌, true, length, take, drop, ap, ◌∙◌, sym, arith}
use Rattle.std.proofs.lemmas.List.{take_rest}
use Rattle.sign_script.specs.Fields.{is_ended, next_number}
use Rattle.sign_script.proofs.LeadingLemmas.{leading_number, no_leading}
use Rattle.sign_script.proofs.PartsLemmas.{left_some}
use Rattle.sign_script.proofs.fields.next_digits.Goals.{else-count-gt0-via-then-count-gt0+then-is_ended+else-number-from, else-count-gt0-via-then-count-gt0+else-is_ended, else-count-gt0-via-else-count-gt0}
use Rattle.sign_script.proofs.fields.next_digits.Goals as goal

pub returns-then-number-from-clause-number : goal.returns-then-number-from-clause-number
returns-then-number-from-clause-number c =
    let rest = c.args.rest.now in
    let text = take (length rest - 1) (drop 1 rest) in
    let lead = c.leading_number-number.result in
    let ended = ap is_ended (sym (take_rest text lead.1)) ∙ sym c.is_ended.ensures ∙ c.if-is_ended.true in
    rw (take_rest text lead.1)
    (leading_number c.args.most lead.0 lead.1 text c.leading_number-number.ensures ended (omega (arith, c.if-count-gt0.true)) (omega (arith, c.from.ensures, c.if-number-from.true))
    ∙ ap (next_number c.args.most) (left_some rest c.in-len1-up.len_at_least))

pub returns-else-count-gt0-clause-number : goal.returns-else-count-gt0-clause-number
returns-else-count-gt0-clause-number c =
    let rest = c.args.rest.now in
    let text = take (length rest - 1) (drop 1 rest) in
    let lead = c.leading_number-number.result in
    let none : is_ended (drop lead.1 text) ≡ true → 1 ≤ lead.1 → lead.0 ≤ c.args.most → ⊥ = λ ended some within. elim c.else-count-gt0.branch [
      | else-count-gt0-via-then-count-gt0+then-is_ended+else-number-from w ↦ absurd (omega (arith, w.from.ensures, w.if-number-from.false, within))
      | else-count-gt0-via-then-count-gt0+else-is_ended w ↦
          let more = ap is_ended (sym (take_rest text lead.1)) ∙ sym w.is_ended.ensures ∙ w.if-is_ended.false in
          cc
      | else-count-gt0-via-else-count-gt0 w ↦ absurd (omega (arith, w.if-count-gt0.false, some))
    ] in
    no_leading c.args.most lead.0 lead.1 text c.leading_number-number.ensures none ∙ ap (next_number c.args.most) (left_some rest c.in-len1-up.len_at_least)
