use Rattle.multi_judge.proofs.Lemmas.{rules, sym, ap, subst, ◌∙◌, arith, nat_tests, judged-default_font, judged-no_font, judged-version, judged-picked, AreWidthsOf, IfSome, Some, info_of, option_map, info_number}
use Rattle.multi_judge.proofs.judge.judge_font.Goals as goal

pub returns-in_default-clause-judged : goal.returns-in_default-clause-judged
returns-in_default-clause-judged c = λ items st.
    rw c.in_default.is (judged-default_font c.args.sign.now items c.args.state.now st c.sign.inside.font (rw (← c.sign.view_is) c.sign.invariant.1))

pub returns-in_default-cells-clause-judged : goal.returns-in_default-cells-clause-judged
returns-in_default-cells-clause-judged c = search (rules, judged-no_font)

pub returns-then-unwrap_or-font-clause-judged : goal.returns-then-unwrap_or-font-clause-judged
returns-then-unwrap_or-font-clause-judged c = λ items st.
    let found = ap (option_map info_of) (sym c.cells.ensures.cells ∙ c.in-Some-cells.is) ∙ ap Some (sym c.info-font.ensures.info) in
    rw c.in-Some.is (judged-version c.args.sign.now items c.in-Some.pick c.info-font.result (rw (← c.sign.view_is) found) (grind (arith, nat_tests)))

pub returns-clause-judged : goal.returns-clause-judged
returns-clause-judged c = λ items st.
    let found = ap (option_map info_of) (sym c.cells.ensures.cells ∙ c.in-Some-cells.is) ∙ ap Some (sym c.info-font.ensures.info) in
    rw c.in-Some.is (judged-picked c.args.sign.now items c.args.state.now st c.in-Some.pick c.info-font.result (rw (← c.sign.view_is) found) (grind (arith, nat_tests)))

pub returns-clause-cells : goal.returns-clause-cells
returns-clause-cells c = λ widths.
    let found = ap (option_map info_of) (sym c.cells.ensures.cells ∙ c.in-Some-cells.is) ∙ ap Some (sym c.info-font.ensures.info) in
    let named = info_number c.sign.inside.bare.now c.in-Some.pick.number c.info-font.result found in
    let here = subst (λ r. IfSome r (AreWidthsOf c.sign.inside.bare.now c.in-Some.pick.number)) c.in-Some-cells.is c.cells.ensures.widths in
    rw (← c.sign.view_is) (subst (λ n. AreWidthsOf c.sign.inside.bare.now n c.in-Some-cells.found) (sym named) here)
