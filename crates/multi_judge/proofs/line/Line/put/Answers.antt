use Rattle.multi_judge.proofs.Lemmas.{◌∙◌, refl, sym, false≢true, line_clashes, no_character}
use Rattle.multi_judge.proofs.line.Line.put.Goals as goal

pub returns-then-not-self-clause-apart : goal.returns-then-not-self-clause-apart
returns-then-not-self-clause-apart c line s glyphs e just = rw (no_character line c.args.self.now glyphs e c.if-not-self.true) refl

pub returns-then-not-self-clause-put : goal.returns-then-not-self-clause-put
returns-then-not-self-clause-put c = λ is. record {
  sum = c.add.ensures.sum;
  behind = c.add.ensures.behind (λ any. absurd (false≢true (sym c.if-not-self.true ∙ any)));
}

pub returns-then-just-self-clause-apart : goal.returns-then-just-self-clause-apart
returns-then-just-self-clause-apart c line s glyphs e just = sym c.if-just-self.true ∙ rw (e, c.number-just.ensures.number, ← just) (sym (line_clashes line s))

pub returns-then-not-stays-clause-apart : goal.returns-then-not-stays-clause-apart
returns-then-not-stays-clause-apart c line s glyphs e just = sym c.if-just-self.false ∙ rw (e, c.number-just.ensures.number, ← just) (sym (line_clashes line s))

pub returns-else-not-stays-clause-apart : goal.returns-else-not-stays-clause-apart
returns-else-not-stays-clause-apart c line s glyphs e just = sym c.if-just-self.false ∙ rw (e, c.number-just.ensures.number, ← just) (sym (line_clashes line s))
