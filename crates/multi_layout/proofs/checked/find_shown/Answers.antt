use Rattle.multi_layout.proofs.Common.{◌-◌, ◌%◌, sym, ap, ◌∙◌, arith, charged, charged-zero, Page, always_one, always_none, shown_in_turn}
use Rattle.multi_layout.proofs.PagesLemmas.{accepted_of, at_least, at_start, first_starts, off_here, page_starts, shown_here}
use Rattle.multi_layout.proofs.FindingLemmas.{finding_always, none_always, one_always}
use Rattle.multi_layout.proofs.checked.find_shown.Goals as goal

pub returns-then-told-eq1-clause-shown : goal.returns-then-told-eq1-clause-shown
returns-then-told-eq1-clause-shown c =
    let sign = c.args.sign.now in
    let octets = c.args.source.now.octets in
    let told = c.args.told in
    elim c.then-told-eq1.branch [
      | goal.then-told-eq1-via-then-told-eq1 w ↦ sym (always_one sign octets told.pages told.cycle c.requires.known.pages c.requires.known.cycle c.requires.known.short c.args.clock w.if-told-eq1.true)
      | goal.then-told-eq1-via-else-told-eq1+then-told-eq0 w ↦ sym (always_none sign octets told.pages told.cycle c.requires.known.pages c.requires.known.cycle c.requires.known.short c.args.clock w.if-told-eq0.true)
    ]

pub returns-then-told-eq1-clause-counted : goal.returns-then-told-eq1-clause-counted
returns-then-told-eq1-clause-counted c =
    let k = c.requires.known in
    elim c.then-told-eq1.branch [
      | goal.then-told-eq1-via-then-told-eq1 w ↦ sym (ap (charged c.args.source.now) (finding_always k c.args.clock (one_always k w.if-told-eq1.true)) ∙ charged-zero c.args.source.now)
      | goal.then-told-eq1-via-else-told-eq1+then-told-eq0 w ↦ sym (ap (charged c.args.source.now) (finding_always k c.args.clock (none_always k w.if-told-eq0.true)) ∙ charged-zero c.args.source.now)
    ]

pub returns-then-told-eq1-clause-begins : goal.returns-then-told-eq1-clause-begins
returns-then-told-eq1-clause-begins c = (first_starts c.requires.known c.requires.start, omega (arith, (at_start c.requires.known c.requires.start).1))

-- a time of the cycle is one of the page that was found
pub returns-then-turn-from-clause-shown : goal.returns-then-turn-from-clause-shown
returns-then-turn-from-clause-shown c =
    let k = c.requires.known in
    let t = c.find_turn-turn.ensures.turn in
    off_here t.skipped (c.args.clock % c.args.told.cycle) t.began (omega (arith, c.if-turn-from.true, c.from.ensures, t.on, t.phase)) (omega (arith, t.until, t.phase, t.on, t.off))
    ∙ sym (shown_in_turn c.args.sign.now c.args.source.now.octets c.args.told.pages c.args.told.cycle k.pages k.cycle k.short c.args.clock c.if-told-eq1.false c.if-told-eq0.false)

pub returns-clause-shown : goal.returns-clause-shown
returns-clause-shown c =
    let k = c.requires.known in
    let t = c.find_turn-turn.ensures.turn in
    ap (Page (c.find_turn-turn.new.start.state.pages - 1)) t.phase
    ∙ shown_here t.skipped (c.args.clock % c.args.told.cycle) t.began (omega (arith, c.if-turn-from.false, c.from.ensures, t.on, t.phase))
    ∙ sym (shown_in_turn c.args.sign.now c.args.source.now.octets c.args.told.pages c.args.told.cycle k.pages k.cycle k.short c.args.clock c.if-told-eq1.false c.if-told-eq0.false)

pub returns-clause-begins : goal.returns-clause-begins
returns-clause-begins c =
    let b = c.find_turn-turn.ensures.begins in
    (page_starts b (accepted_of c.requires.known).2, omega (arith, at_least b))
