use Rattle.multi_judge.proofs.Lemmas.{refl, sym, ap, ◌∙◌, false≢true, page_number, in_group, own_group, placing_group, page_number_known, Area, group_sum, reached_conflicts, area_with}
use Rattle.multi_judge.proofs.state.State.put_break.Goals as goal

pub returns-then-not-reach-clause-conflicts : goal.returns-then-not-reach-clause-conflicts
returns-then-not-reach-clause-conflicts c before s e g page =
    sym (reached_conflicts c.reach.ensures.reached (page_number_known c.args.self.now.attributes.page_just) before s e (ap page_number page) ∙ rw c.if-not-reach.true refl)

pub returns-clause-conflicts : goal.returns-clause-conflicts
returns-clause-conflicts c before s e g page =
    sym (reached_conflicts c.reach.ensures.reached (page_number_known c.args.self.now.attributes.page_just) before s e (ap page_number page) ∙ rw (c.if-not-reach.false, g) refl)

pub returns-clause-added : goal.returns-clause-added
returns-clause-added c = λ is.
    let state = c.args.self.now in
    let here = page_number state.attributes.page_just in
    let goes = c.reach.ensures.reached.goes c.if-not-reach.false in
    let ended = c.add_break.ensures in
    record {
      sum = λ area s placing e own page order.
          let on = goes.sum area placing e in
          area_with area s here (ap page_number page) state.area e order c.reach.new.self _ on refl refl refl
          (ended.sum (in_group here area) s (placing_group here area placing) (ap (λ (a : Area). a.group) on) own ∙ ap group_sum (sym (own_group here area s (ap page_number page))));
      present = λ order. goes.present;
      none = ended.none;
      same = refl;
      limited = λ limited. record {
        width = λ any. absurd (false≢true (sym ended.none ∙ any));
        height = λ some. c.reach.ensures.reached.limit c.if-not-reach.false limited.height;
      };
    }
