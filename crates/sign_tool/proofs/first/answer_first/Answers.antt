use Rattle.std.proofs.Common.{◌+◌, take, drop, ap, ◌∙◌, arith}
use Rattle.std.proofs.lemmas.List.{length-take-le}
use Rattle.sign_tool.specs.internal.Ready.{ReadyData}
use Rattle.sign_tool.proofs.ReadyLemmas
use Rattle.sign_tool.proofs.first.answer_first.Goals as goal

pub returns-in-Text-clause-first : goal.returns-in-Text-clause-first
returns-in-Text-clause-first g c =
    let (below, one, stands) = c.in-Some.ensures in
    let octets = c.args.octets.now in
    let told = rw c.in-Text.is at c.in_ok-answer.ensures.answered in
    let (text, grown, says) = rw c.text_of-line.ensures.text at told in
    let old = c.args.ready.now in
    let new = c.answer.new.text in (
      take c.in-Some.end octets,
      drop (c.in-Some.end + 1) octets,
      record { stands = stands; one = one },
      omega (arith, length-take-le c.in-Some.end octets (omega (arith, below))),
      rw c.text_of-line.ensures.text at c.if-line-gt-MAX_LINE.false,
      (
        text,
        ReadyLemmas.answer_added _ new.whole new.begun old.whole old.begun text (ap (λ (r : ReadyData). r.whole) c.end_answer.ensures) c.in_ok-answer.ensures.whole grown c.requires.begun,
        says,
      ),
    )

pub returns-in-BadLine-clause-first : goal.returns-in-BadLine-clause-first
returns-in-BadLine-clause-first g c =
    let (below, one, stands) = c.in-Some.ensures in
    let octets = c.args.octets.now in
    let told = rw c.in-BadLine.is at c.in_ok-answer.ensures.answered in
    let (same, bad) = rw c.text_of-line.ensures.text at told in (
      take c.in-Some.end octets,
      drop (c.in-Some.end + 1) octets,
      record { stands = stands; one = one },
      rw c.text_of-line.ensures.text at c.if-line-gt-MAX_LINE.false,
      (c.in_ok-answer.ensures.whole, bad),
    )

pub returns-in-BadLine-clause-begun : goal.returns-in-BadLine-clause-begun
returns-in-BadLine-clause-begun g c =
    let told = rw c.in-BadLine.is at c.in_ok-answer.ensures.answered in
    told.0 ∙ c.requires.begun
