use Rattle.multi_judge.proofs.Lemmas.{◌≡◌, true, IfSome, None, Some, after_last, filled, is_break, sym, rules, ◌∙◌, subst, le-leb, lt-leb, Joins, breaks_there, drops_there, present_line, put_line, stands_there, stays_there, split_none, split_space, split_word, Split, character_of, IsOpen}
use Rattle.multi_judge.proofs.FillGroupLemmas.{present_glyphs}
use Rattle.multi_judge.proofs.area.Group.fill_character.Goals as goal

pub returns-then-space-clause-sum : goal.returns-then-space-clause-sum
returns-then-space-clause-sum c most group s small placing is space fits apart e o =
    let j : Joins c.args.here.now.rectangle.width group s (character_of c.args.here.now c.args.cell_width) c.args.self.now = record { small = small; placing = placing; is = is; fits = fits; apart = apart; sum = e } in
    let (grown, room) = put_line j c.put.result c.put.new.self c.args.most.now c.put.new.most c.put.ensures.apart c.put.ensures.put c.put.ensures.most most in
    stands_there j c.put.new.self grown c.put.new.most room (le-leb c.put.new.self.part.width c.put.new.most c.if-self-most.true) _
    (split_space (after_last is_break (filled (Some c.args.here.now.rectangle.width) group)) s (character_of c.args.here.now c.args.cell_width) is (space ∙ c.if-space.true) c.args.self.now.line c.default.result (present_line j) (search rules))

pub returns-in-Some-clause-sum : goal.returns-in-Some-clause-sum
returns-in-Some-clause-sum c most group s small placing is space fits apart e o =
    let j : Joins c.args.here.now.rectangle.width group s (character_of c.args.here.now c.args.cell_width) c.args.self.now = record { small = small; placing = placing; is = is; fits = fits; apart = apart; sum = e } in
    let (grown, room) = put_line j c.put.result c.put.new.self c.args.most.now c.put.new.most c.put.ensures.apart c.put.ensures.put c.put.ensures.most most in
    stands_there j c.put.new.self grown c.put.new.most room (le-leb c.put.new.self.part.width c.put.new.most c.if-self-most.true) _
    (split_word (after_last is_break (filled (Some c.args.here.now.rectangle.width) group)) s (character_of c.args.here.now c.args.cell_width) (present_glyphs j) is (space ∙ c.if-space.false) apart c.in-Some.parts c.add.new.self (sym c.in-Some.is ∙ o) c.add.ensures.sum)

pub returns-in_default-clause-sum : goal.returns-in_default-clause-sum
returns-in_default-clause-sum c most group s small placing is space fits apart e o =
    let j : Joins c.args.here.now.rectangle.width group s (character_of c.args.here.now c.args.cell_width) c.args.self.now = record { small = small; placing = placing; is = is; fits = fits; apart = apart; sum = e } in
    let (grown, room) = put_line j c.put.result c.put.new.self c.args.most.now c.put.new.most c.put.ensures.apart c.put.ensures.put c.put.ensures.most most in
    stands_there j c.put.new.self grown c.put.new.most room (le-leb c.put.new.self.part.width c.put.new.most c.if-self-most.true) _
    (c.in_default.is ∙ split_none (after_last is_break (filled (Some c.args.here.now.rectangle.width) group)) s (space ∙ c.if-space.false) (sym c.in_default.is ∙ o))

pub returns-then-space-2-clause-sum : goal.returns-then-space-2-clause-sum
returns-then-space-2-clause-sum c most group s small placing is space fits apart e o =
    let j : Joins c.args.here.now.rectangle.width group s (character_of c.args.here.now c.args.cell_width) c.args.self.now = record { small = small; placing = placing; is = is; fits = fits; apart = apart; sum = e } in
    let (grown, room) = put_line j c.put.result c.put.new.self c.args.most.now c.put.new.most c.put.ensures.apart c.put.ensures.put c.put.ensures.most most in
    (drops_there j c.put.new.self grown c.put.new.most room (lt-leb c.put.new.self.part.width c.put.new.most c.if-self-most.false)
    (space ∙ c.if-space-2.true) c.add_break.new.self c.add_break.ensures.sum)

pub returns-clause-sum : goal.returns-clause-sum
returns-clause-sum c most group s small placing is space fits apart e o =
    let j : Joins c.args.here.now.rectangle.width group s (character_of c.args.here.now c.args.cell_width) c.args.self.now = record { small = small; placing = placing; is = is; fits = fits; apart = apart; sum = e } in
    let (grown, room) = put_line j c.put.result c.put.new.self c.args.most.now c.put.new.most c.put.ensures.apart c.put.ensures.put c.put.ensures.most most in
    (breaks_there j c.put.new.self grown c.put.new.most room (lt-leb c.put.new.self.part.width c.put.new.most c.if-self-most.false)
    (space ∙ c.if-space-2.false) c.in_ok-parts.parts (sym c.in_ok-parts.was ∙ o) c.add_break-2.new.self c.add_break-2.ensures.sum c.add-2.new.self c.add-2.ensures.sum)

pub returns-in_err-parts-clause-sum : goal.returns-in_err-parts-clause-sum
returns-in_err-parts-clause-sum c most group s small placing is space fits apart e o =
    let j : Joins c.args.here.now.rectangle.width group s (character_of c.args.here.now c.args.cell_width) c.args.self.now = record { small = small; placing = placing; is = is; fits = fits; apart = apart; sum = e } in
    let (grown, room) = put_line j c.put.result c.put.new.self c.args.most.now c.put.new.most c.put.ensures.apart c.put.ensures.put c.put.ensures.most most in
    let none : c.from_residual.result ≡ None = search rules in
    rw (c.in_err-parts.was, none) (stays_there j c.put.new.self grown c.put.new.most room (lt-leb c.put.new.self.part.width c.put.new.most c.if-self-most.false)
    (space ∙ c.if-space-2.false) (sym c.in_err-parts.was ∙ o))

pub returns-in_err-parts-clause-behind : goal.returns-in_err-parts-clause-behind
returns-in_err-parts-clause-behind c = λ any. (c.put.ensures.put (c.put.ensures.open c.requires.open.0)).behind

pub returns-clause-behind : goal.returns-clause-behind
returns-clause-behind c = λ any. c.add-2.ensures.behind (subst (λ o. IfSome o (λ (s : Split). s.behind.any ≡ true → IsOpen c.args.here.now.line_just s.behind)) c.in_ok-parts.was c.requires.open.1)
