use Rattle.multi_layout.proofs.Common.{◌≡◌, ℕ, ◌-◌, cond, length, refl, sym, ap, ◌∙◌, arith, slice_get_within, code_of, Faulty, KnownItem, meant_by, charged, charged-zero, single_token, item_of, fault_there, item_few}
use Rattle.multi_token.specs.Spelling as spelled
use Rattle.multi_token.specs.declared.token.Kind.TheVariants as kinds
use Rattle.multi_layout.specs.Finding.{reading_steps}
use Rattle.multi_layout.proofs.PassingLemmas.{rest_counted}
use Rattle.multi_layout.proofs.WalkLemmas.{no_bracket, no_fault, octet_item}
use Rattle.multi_layout.proofs.cursor.read_item.Goals as goal

pub returns-then-not-is_bracket-clause-item : goal.returns-then-not-is_bracket-clause-item
returns-then-not-is_bracket-clause-item c =
    let (sign, before, behind, p) = c.requires.within in
    rw c.from.ensures (octet_item c.args.source.now.octets c.args.at c.args.first (omega (arith, p.accepted.short)) c.requires.stands (no_bracket c.args.first (sym c.is_bracket.ensures ∙ c.if-not-is_bracket.true)))

pub returns-then-not-is_bracket-clause-rest : goal.returns-then-not-is_bracket-clause-rest
returns-then-not-is_bracket-clause-rest c =
    let (sign, before, behind, p) = c.requires.within in
    let none = sym c.is_bracket.ensures ∙ c.if-not-is_bracket.true in
    let source = c.args.source.now in
    let no_more : reading_steps (length source.octets - c.args.at) (spelled.Char c.args.first) - 1 ≡ 0 = ap (λ b. cond b 2 1 - 1) none in
    (record { at = c.args.at; len = 1; kind = kinds.Char c.args.first }, refl, single_token source.octets c.args.at c.args.first (omega (arith, p.accepted.short)) c.requires.stands (no_bracket c.args.first none), sym (ap (charged source) no_more ∙ charged-zero source))

pub unreachable-requires : goal.unreachable-requires
unreachable-requires c =
    let (sign, before, behind, p) = c.requires.within in
    let octets = c.args.source.now.octets in
    let (steps, reads, fault) = c.in_default.ensures.fault in
    no_fault sign octets before behind c.args.at (code_of c.in_default.field-0) p (slice_get_within octets c.args.at c.args.first c.requires.stands) (fault_there steps fault)

-- no item that was read is at fault
sound : (item : KnownItem) (code : ℕ) → meant_by item ≡ Faulty code → ⊥
sound item code is = grind (arith)

pub returns-clause-steps : goal.returns-clause-steps
returns-clause-steps c =
    let (steps, reads, item) = c.in-Ok.ensures.item in
    (steps, omega arith, (item_few (sound c.in-Ok.next.item) item).1, reads)

pub returns-clause-rest : goal.returns-clause-rest
returns-clause-rest c =
    let (steps, reads, (token, at, len, stands, means, counted)) = c.in-Ok.ensures.item in
    let source = c.args.source.now in
    (token, at, stands, reads ∙ ap (charged source) (sym (rest_counted (length source.octets - c.args.at) steps (item_of source.octets token) c.in-Ok.next.item means counted)))
