use Rattle.multi_layout.proofs.Common.{◌≡◌, ℕ, ◌+◌, ◌-◌, length, List, Some, ap, sym, subst, inl, inr, ◌∙◌, Counted, charged, charged-charged, code_of}
use Rattle.std.specs.Prelude.{min, slice_get}
use Rattle.multi_token.proofs.PlaceLemmas.{none_closing}
use Rattle.multi_meaning.proofs.ItemAtLemmas.{closing_read, read_is, read_not}
use Rattle.multi_meaning.specs.internal.ItemAt.{IsFaultRead}
use Rattle.multi_layout.proofs.WalkLemmas.{same_octets}
use Rattle.multi_layout.proofs.BracketedLemmas.{doubled_judged, with_first}
use Rattle.multi_layout.proofs.judge.judge_bracketed.Goals as goal

pub returns-in-Ok-clause-judged : goal.returns-in-Ok-clause-judged
returns-in-Ok-clause-judged g c =
    let next = sym c.read.ensures.octet ∙ read_is c.read.result c.args.bracket (sym c.if-eq.true ∙ c.eq.ensures) in
    let judged = rw c.from.ensures at c.in-Ok.ensures.judged in
    (c.in-Ok.field-0, doubled_judged _ _ c.args.source.now c.args.at c.args.bracket _ _ _ _ c.requires.room c.requires.bracket c.requires.stands next c.read.ensures.step (rw c.from.ensures at c.in-Ok.ensures.steps) judged)

pub returns-in-Err-clause-judged : goal.returns-in-Err-clause-judged
returns-in-Err-clause-judged g c =
    let next = sym c.read.ensures.octet ∙ read_is c.read.result c.args.bracket (sym c.if-eq.true ∙ c.eq.ensures) in
    let judged = rw c.from.ensures at c.in-Err.ensures.judged in
    inr (2, doubled_judged _ _ c.args.source.now c.args.at c.args.bracket _ _ _ _ c.requires.room c.requires.bracket c.requires.stands next c.read.ensures.step (rw c.from.ensures at c.in-Err.ensures.steps) judged)

pub returns-then-bracket-eq93-clause-judged : goal.returns-then-bracket-eq93-clause-judged
returns-then-bracket-eq93-clause-judged g c =
    let octets = c.args.source.now.octets in
    let first = c.requires.stands ∙ ap Some c.if-bracket-eq93.true in
    let other = λ (next : slice_get octets (c.args.at + 1) ≡ Some 93). read_not c.read.result c.args.bracket (sym c.if-eq.false ∙ c.eq.ensures) (c.read.ensures.octet ∙ next ∙ ap Some (sym c.if-bracket-eq93.true)) in
    inl (1, c.read.ensures.step, closing_read octets c.args.at first (none_closing octets c.args.at first other))

pub returns-in-Some-Ok-clause-judged : goal.returns-in-Some-Ok-clause-judged
returns-in-Some-Ok-clause-judged g c =
    let (ended, judged) = rw c.in-Some-Ok.field-0-is at c.in-Some-Ok.ensures.judged in
    (ended, with_first _ _ c.args.source.now c.args.at (c.in-Some-Ok.len + 1) _ _ _ _ c.read.ensures.step judged)

pub returns-in-Some-Err-clause-judged : goal.returns-in-Some-Err-clause-judged
returns-in-Some-Err-clause-judged g c =
    let (len, judged) = rw c.in-Some-Err.field-0-is at c.in-Some-Err.ensures.judged in
    inr (len, with_first _ _ c.args.source.now c.args.at len _ _ _ _ c.read.ensures.step judged)

pub returns-in-None-clause-judged : goal.returns-in-None-clause-judged
returns-in-None-clause-judged g c =
    let start = c.args.source.now in
    let first = same_octets c.read.ensures.step in
    let (none, lent) = c.in-None.ensures.judged in
    let second = same_octets lent ∙ first in
    let ahead = λ (os : List ℕ). min 26 (length os - (c.args.at + 1)) in
    let (k, told, fault) = c.fault_of.ensures.fault in
    inl (
      1 + ahead start.octets + k,
      told
          ∙ ap (λ (s : Counted). charged s k) (lent ∙ ap (charged c.read.new.self) (ap ahead first) ∙ ap (λ (s : Counted). charged s (ahead start.octets)) c.read.ensures.step ∙ charged-charged start 1 (ahead start.octets))
          ∙ charged-charged start (1 + ahead start.octets) k,
      subst (λ (os : List ℕ). IsFaultRead os c.args.at (code_of c.fault_of.result) (1 + ahead os + k)) second fault,
    )
