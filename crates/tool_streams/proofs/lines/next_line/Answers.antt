use Rattle.std.proofs.Common.{◌≡◌, ◌<◌, ◌≤◌, ◌++◌, [], ◌∷◌, arith, length, refl, ap, subst, ◌∙◌, inl, inr}
use Rattle.std.proofs.lemmas.Result.{err_from_is_err_and}
use Rattle.tool_streams.specs.Lines.{text_of}
use Rattle.tool_streams.proofs.SeenLemmas
use Rattle.tool_streams.proofs.lines.next_line.Goals.{then-len-lt-MAX_KEPT+in_ok-push_octet-in-Some, in-Some-2, then-is_cut-via-then-is_cut, then-is_cut-via-else-is_cut+then-text_of-gt-MAX_LINE}
use Rattle.tool_streams.proofs.lines.next_line.Goals as goal

pub returns-in_err-next_octet : goal.returns-in_err-next_octet
returns-in_err-next_octet g c =
    let p = err_from_is_err_and c.from_residual.result c.from_residual.ensures.1 in
    let (seen, s) = c.loop-taken.invariant.0 in
    rw (p.1, p.2) (record { taken = SeenLemmas.fails_reading _ _ _ _ _ _ _ seen s c.loop-taken.line.items c.args.left.now _ (omega arith) c.in_err-next_octet.ensures.taken; unfinished = tt })

pub returns-in_err-next_octet-2 : goal.returns-in_err-next_octet-2
returns-in_err-next_octet-2 g c =
    let p = err_from_is_err_and c.from_residual-in_err-next_octet-2.result c.from_residual-in_err-next_octet-2.ensures.1 in
    let (seen, s) = c.loop-taken.invariant.0 in
    rw (p.1, p.2) (record { taken = SeenLemmas.fails_reading _ _ _ _ _ _ _ seen s c.loop-taken.line.items c.args.left.now _ (omega arith) c.in_err-next_octet-2.ensures.taken; unfinished = tt })

pub returns-in-None-2 : goal.returns-in-None-2
returns-in-None-2 g c =
    let (seen, s) = c.loop-taken.invariant.0 in
    let end = SeenLemmas.at_end _ _ _ c.in-None-2.is c.in_ok-next_octet.ensures.taken in
    record {
      taken = SeenLemmas.ends_unfinished _ _ _ _ _ _ c.args.left.now seen s c.loop-taken.line.items 0 (omega arith) (omega arith) end;
      unfinished = SeenLemmas.keeps_unfinished _ _ _ _ _ _ c.args.left.now seen s (omega arith) (omega arith) end;
    }

pub returns-then-is_cut : goal.returns-then-is_cut
returns-then-is_cut g c =
    let (seen, s) = c.loop-taken.invariant.0 in
    let more = SeenLemmas.at_octet _ _ _ _ c.in-Some-eq10.is c.in_ok-next_octet.ensures.taken in
    record {
      taken = SeenLemmas.ends_too_long _ _ _ _ _ _ c.args.left.now seen s c.loop-taken.line.items 0 _ c.in-Some-eq10.field-0-test (omega arith) (elim c.then-is_cut.branch [
        | then-is_cut-via-then-is_cut w ↦ inl w.if-is_cut.true
        | then-is_cut-via-else-is_cut+then-text_of-gt-MAX_LINE w ↦
            inr (w.if-is_cut.false, subst (λ l. 8300 < length l) (w.text_of.ensures.text ∙ ap text_of w.deref.ensures.value) w.if-text_of-gt-MAX_LINE.true)
      ]) more;
      unfinished = tt;
    }

pub returns-in-Some-eq10 : goal.returns-in-Some-eq10
returns-in-Some-eq10 g c =
    let (seen, s) = c.loop-taken.invariant.0 in
    let more = SeenLemmas.at_octet _ _ _ _ c.in-Some-eq10.is c.in_ok-next_octet.ensures.taken in
    let same : c.text_of.result.now ≡ text_of c.loop-taken.line.items = c.text_of.ensures.text ∙ ap text_of c.deref.ensures.value in
    record { taken = SeenLemmas.ends_line _ _ _ _ _ _ c.args.left.now seen s _ _ c.in-Some-eq10.field-0-test c.if-is_cut.false (omega arith) refl (subst (λ l. length l ≤ 8300) same c.if-text_of-gt-MAX_LINE.false) more; unfinished = tt }

pub returns-in-None-2-2 : goal.returns-in-None-2-2
returns-in-None-2-2 g c =
    let (seen, s) = c.loop-taken.invariant.0 in
    let end = SeenLemmas.at_end _ _ _ c.in-None-2-2.is c.in_ok-next_octet-2.ensures.taken in
    record {
      taken = SeenLemmas.ends_unfinished _ _ _ _ _ _ c.args.left.now seen s c.loop-taken.line.items 0 (omega arith) (omega arith) end;
      unfinished = SeenLemmas.keeps_unfinished _ _ _ _ _ _ c.args.left.now seen s (omega arith) (omega arith) end;
    }

pub returns-in-Some-3 : goal.returns-in-Some-3
returns-in-Some-3 g c =
    let (seen, s) = c.loop-taken.invariant.0 in
    record { taken = SeenLemmas.ends_past_limit _ _ _ _ _ _ c.args.left.now seen s c.loop-taken.line.items 0 _ (omega arith) (SeenLemmas.at_octet _ _ _ _ c.in-Some-3.is c.in_ok-next_octet-2.ensures.taken); unfinished = tt }

pub returns-in_err-push_octet-in-Some : goal.returns-in_err-push_octet-in-Some
returns-in_err-push_octet-in-Some g c =
    let p = err_from_is_err_and c.from_residual-in_err-push_octet-in-Some.result c.from_residual-in_err-push_octet-in-Some.ensures.1 in
    let (seen, s) = c.loop-taken.invariant.0 in
    let more = SeenLemmas.at_octet _ _ _ _ c.in-Some.is c.in_ok-next_octet.ensures.taken in
    rw (p.1, p.2) (record { taken = SeenLemmas.fails_keeping _ _ _ _ _ _ _ seen s c.push_octet.new.text.items c.args.left.now _ _ (omega arith) refl more; unfinished = tt })

pub loop-taken-preserved : goal.loop-taken-preserved
loop-taken-preserved g c =
    let (seen, s) = c.loop-taken.invariant.0 in
    let more = SeenLemmas.at_octet _ _ _ _ c.in-Some.is c.in_ok-next_octet.ensures.taken in
    let count : c.len.result ≡ length c.loop-taken.line.items = c.len.ensures ∙ c.loop-taken.line.ok.0 in (
      elim c.if-len-lt-MAX_KEPT.branch [
        | then-len-lt-MAX_KEPT+in_ok-push_octet-in-Some w ↦
            rw (w.line-is, w.is_cut-is, w.in_ok-push_octet-in-Some.ensures.text) (
              seen ++ c.in-Some.octet ∷ [],
              SeenLemmas.Seen-kept 8301 _ _ _ _ _ _ _ seen s more c.in-Some.octet-test.1 (omega arith),
            )
        | in-Some-2 w ↦
            rw (w.line-is, w.is_cut-is) (
              seen ++ c.in-Some.octet ∷ [],
              SeenLemmas.Seen-cut 8301 _ _ _ _ c.loop-taken.is_cut _ _ seen s more c.in-Some.octet-test.1 (omega arith),
            )
      ],
      c.loop-taken.invariant.1,
    )
