use Rattle.std.proofs.Common.{slice_index_or, ap, ◌∙◌, sym, arith}
use Rattle.std.proofs.lemmas.List.{take_rest}
use Rattle.sign_script.specs.Fields.{is_ended}
use Rattle.sign_script.proofs.LeadingLemmas.{one_digit, one_digit_told}
use Rattle.sign_script.proofs.fields.next_digit.Goals as goal

pub returns-then-is_ended-clause-number : goal.returns-then-is_ended-clause-number
returns-then-is_ended-clause-number c =
    let rest = c.args.rest.now in
    let told = one_digit_told (slice_index_or rest 1 0) c.from-digit.result c.from-digit.ensures (omega (arith, c.type_inv.rest 1)) c.if-digit-le9.true in
    let ended = ap is_ended (sym (take_rest rest 2)) ∙ sym c.is_ended.ensures ∙ c.if-is_ended.true in
    rw (take_rest rest 2) (one_digit c.args.most _ rest c.in-len2-up.len_at_least told.0 told.1 told.2 c.if-digit-most.true ended)
