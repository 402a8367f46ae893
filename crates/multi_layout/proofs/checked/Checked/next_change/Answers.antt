use Rattle.multi_layout.proofs.Common.{◌≡◌, ◌-◌, sym, ap, refl, ◌∙◌, arith, charged, meanings}
use Rattle.multi_layout.specs.Change.{flashes_left, page_flashes}
use Rattle.multi_layout.specs.Finding.{page_steps}
use Rattle.multi_layout.proofs.PagesLemmas.{at_start}
use Rattle.multi_layout.proofs.FindingLemmas.{change_always, change_turns, in_turn, none_always, one_always, turn_change}
use Rattle.multi_layout.proofs.checked.Checked.next_change.Goals as goal

pub pass_page-requires : goal.pass_page-requires
pass_page-requires c = record { begins = (at_start c.self.invariant c.new-start.ensures.start).0 }

pub returns-then-told-eq1-clause-change : goal.returns-then-told-eq1-clause-change
returns-then-told-eq1-clause-change c =
    let k = c.self.invariant in
    let s = c.self.inside in
    let first : c.new-start.result.state.pages - 1 ≡ 0 = omega (arith, (at_start k c.new-start.ensures.start).1) in
    let found = c.pass_page.ensures.soonest refl ∙ ap (λ n. flashes_left c.args.clock (page_flashes s.terms (meanings s.source.octets) n)) first in
    rw (← c.self.view_is) (found ∙ sym (elim c.then-told-eq1.branch [
      | goal.then-told-eq1-via-then-told-eq1 w ↦ (change_always k c.args.clock (one_always k w.if-told-eq1.true)).1
      | goal.then-told-eq1-via-else-told-eq1+then-told-eq0 w ↦ (change_always k c.args.clock (none_always k w.if-told-eq0.true)).1
    ]))

pub returns-then-told-eq1-clause-steps : goal.returns-then-told-eq1-clause-steps
returns-then-told-eq1-clause-steps c =
    let k = c.self.invariant in
    let s = c.self.inside in
    let first : c.new-start.result.state.pages - 1 ≡ 0 = omega (arith, (at_start k c.new-start.ensures.start).1) in
    let counted = c.pass_page.ensures.counted ∙ ap (λ n. charged s.source (page_steps s.source.octets n)) first in
    rw (← c.self.view_is) (counted ∙ ap (charged s.source) (sym (elim c.then-told-eq1.branch [
      | goal.then-told-eq1-via-then-told-eq1 w ↦ (change_always k c.args.clock (one_always k w.if-told-eq1.true)).0
      | goal.then-told-eq1-via-else-told-eq1+then-told-eq0 w ↦ (change_always k c.args.clock (none_always k w.if-told-eq0.true)).0
    ])))

pub returns-clause-change : goal.returns-clause-change
returns-clause-change c =
    let k = c.self.invariant in
    rw (← c.self.view_is) (c.left.ensures ∙ turn_change k c.find_turn.ensures.turn (c.find_turn.ensures.soonest refl) ∙ sym (change_turns k c.args.clock (in_turn k c.if-told-eq1.false c.if-told-eq0.false)).1)

pub returns-clause-steps : goal.returns-clause-steps
returns-clause-steps c =
    let k = c.self.invariant in
    rw (← c.self.view_is) (c.find_turn.ensures.counted ∙ ap (charged c.self.inside.source) (sym (change_turns k c.args.clock (in_turn k c.if-told-eq1.false c.if-told-eq0.false)).0))
