use Rattle.multi_judge.proofs.Lemmas.{refl, sym, ap, ◌∙◌, after_last, page_number, area_of, in_group, is_break, area_placing, page_number_known, Area, PutsCharacter, character_of, reached_conflicts, reached_group, reached_line, area_with, group_character, present_glyphs}
use Rattle.multi_judge.proofs.state.State.put_character.Goals as goal

pub returns-then-not-reach-clause-conflicts : goal.returns-then-not-reach-clause-conflicts
returns-then-not-reach-clause-conflicts c before s e g page just =
    sym (reached_conflicts c.reach.ensures.reached (page_number_known c.args.self.now.attributes.page_just) before s e (ap page_number page) ∙ rw c.if-not-reach.true refl)

pub returns-clause-conflicts : goal.returns-clause-conflicts
returns-clause-conflicts c before s e g page just =
    let here = page_number c.args.self.now.attributes.page_just in
    let placing = area_placing before s in
    let on = (c.reach.ensures.reached.goes c.if-not-reach.false).sum (area_of s before) placing e in
    c.put.ensures.apart (after_last is_break (in_group here (area_of s before))) s (present_glyphs here (area_of s before) placing) (ap (λ (a : Area). a.group.line) on) just
    ∙ sym (reached_conflicts c.reach.ensures.reached (page_number_known c.args.self.now.attributes.page_just) before s e (ap page_number page) ∙ rw (c.if-not-reach.false, g) refl)

pub returns-clause-limited : goal.returns-clause-limited
returns-clause-limited c = λ limited.
    let reached = c.reach.ensures.reached in
    let state = c.args.self.now in
    let known = page_number_known state.attributes.page_just in
    record {
      width = c.put.ensures.most (reached_line reached known state.attributes.rectangle.width state.limits.width limited.width);
      height = λ some. reached_group reached known limited.height;
    }

pub returns-clause-added : goal.returns-clause-added
returns-clause-added c = λ is.
    let state = c.args.self.now in
    let here = page_number state.attributes.page_just in
    let goes = c.reach.ensures.reached.goes c.if-not-reach.false in
    let put : PutsCharacter c.reach.new.self.group.line (character_of state.attributes c.args.cell_width) c.put.new.self = c.put.ensures.put is in
    record {
      sum = λ area s placing e own page order apart.
          let on = goes.sum area placing e in
          area_with area s here (ap page_number page) state.area e order c.reach.new.self _ on refl refl refl
          (group_character here area s (ap page_number page) own.glyph c.reach.new.self.group c.put.new.self (ap (λ (a : Area). a.group) on)
          (put.sum (after_last is_break (in_group here area)) s (present_glyphs here area placing) own (ap (λ (a : Area). a.group.line) on) apart));
      behind = (goes.present, put.behind);
      same = refl;
      limited = returns-clause-limited c;
    }
