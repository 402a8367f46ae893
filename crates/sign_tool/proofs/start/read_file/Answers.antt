use Rattle.std.proofs.Common.{[], ◌∷◌, ◌++◌, ap, ◌∙◌, sym, inl, inr, refl}
use Rattle.std.proofs.lemmas.Result.{err_from_is_err_and}
use Rattle.tool_streams.specs.Lines.{is_mark}
use Rattle.sign_tool.proofs.FileLemmas
use Rattle.sign_tool.proofs.start.read_file.Goals as goal

pub returns-in_err-next_line : goal.returns-in_err-next_line
returns-in_err-next_line g c =
    let p = err_from_is_err_and c.from_residual.result c.from_residual.ensures.1 in
    let (lines, r) = c.loop-line.invariant in
    rw (p.1, p.2) (record { taken = FileLemmas.fails_reading _ _ _ _ _ c.next_line.new.left _ c.next_line.new.line.items lines r _ c.in_err-next_line.ensures.taken })

pub returns-in-TooLong : goal.returns-in-TooLong
returns-in-TooLong g c =
    let (lines, r) = c.loop-line.invariant in
    record { taken = FileLemmas.fails_long _ _ _ _ _ c.next_line.new.left _ c.next_line.new.line.items lines r (rw c.in-TooLong.is at c.in_ok-next_line.ensures.taken) }

pub returns-in-Unfinished : goal.returns-in-Unfinished
returns-in-Unfinished g c =
    let (lines, r) = c.loop-line.invariant in
    let line = c.next_line.new.line.items in
    let left = c.next_line.new.left in
    record {
      taken = elim c.in-Unfinished.is [
        | inl is ↦ FileLemmas.fails_unfinished _ _ _ _ _ left _ line lines r (rw is at c.in_ok-next_line.ensures.taken)
        | inr is ↦ FileLemmas.fails_at_end _ _ _ _ _ left _ line lines r (rw is at c.in_ok-next_line.ensures.taken)
      ];
    }

pub returns-in-InputTooLong : goal.returns-in-InputTooLong
returns-in-InputTooLong g c =
    let (lines, r) = c.loop-line.invariant in
    record { taken = FileLemmas.fails_past _ _ _ _ _ c.next_line.new.left _ c.next_line.new.line.items lines r (rw c.in-InputTooLong.is at c.in_ok-next_line.ensures.taken) }

pub returns-then-is_mark : goal.returns-then-is_mark
returns-then-is_mark g c =
    let (lines, r) = c.loop-line.invariant in
    record {
      taken = FileLemmas.leads _ _ _ _ _ _ _ c.next_line.new.line.items lines r (rw c.in-Line.is at c.in_ok-next_line.ensures.taken)
          (ap is_mark (sym c.deref.ensures.value) ∙ sym c.is_mark.ensures ∙ c.if-is_mark.true);
    }

pub loop-line-preserved : goal.loop-line-preserved
loop-line-preserved g c =
    let (lines, r) = c.loop-line.invariant in
    let line = c.next_line.new.line.items in (
      lines ++ line ∷ [],
      FileLemmas.goes_on _ _ _ _ _ _ _ line lines r _ (rw c.in-Line.is at c.in_ok-next_line.ensures.taken)
          (ap is_mark (sym c.deref.ensures.value) ∙ sym c.is_mark.ensures ∙ c.if-is_mark.false)
          (c.in_ok-push_line.ensures ∙ ap (λ l. c.loop-line.octets.items ++ (l ++ 10 ∷ [])) c.deref-in-loop-line.ensures.value),
    )

pub returns-in_err-push_line : goal.returns-in_err-push_line
returns-in_err-push_line g c =
    let p = err_from_is_err_and c.from_residual-in_err-push_line.result c.from_residual-in_err-push_line.ensures.1 in
    let (lines, r) = c.loop-line.invariant in
    rw (p.1, p.2) (record {
      taken = FileLemmas.fails_keeping _ _ _ _ _ c.next_line.new.left _ c.next_line.new.line.items lines r _ (rw c.in-Line.is at c.in_ok-next_line.ensures.taken) refl;
    })
