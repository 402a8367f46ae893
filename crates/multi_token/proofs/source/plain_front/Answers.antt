use Rattle.std.proofs.Common.{arith, sym, ◌+◌, ◌∙◌}
use Rattle.multi_token.proofs.RunLemmas.{ended_here, ended_past, plain_more}
use Rattle.multi_token.proofs.source.plain_front.Goals as goal

pub returns-then-is_bracket-3-clause-plain : goal.returns-then-is_bracket-3-clause-plain
returns-then-is_bracket-3-clause-plain c =
    let octets = c.args.octets.now in
    let all = c.loop-len-test.true in
    let one = plain_more octets c.loop-len.len (omega (arith, all, c.min-end.ensures)) (c.loop-len.len + 1) (omega arith) (sym c.is_bracket.ensures ∙ c.if-is_bracket.false) c.loop-len.invariant.plain in
    plain_more octets (c.loop-len.len + 1) (omega (arith, all, c.min-end.ensures)) (c.loop-len.len + 2) (omega arith) (sym c.is_bracket-in-loop-len.ensures ∙ c.if-is_bracket-2.false) one

pub returns-then-is_bracket-3-clause-ended : goal.returns-then-is_bracket-3-clause-ended
returns-then-is_bracket-3-clause-ended c = λ few. ended_here c.args.octets.now (c.loop-len.len + 2) (omega (arith, c.loop-len-test.true, c.min-end.ensures)) (sym c.is_bracket-in-loop-len-2.ensures ∙ c.if-is_bracket-3.true)

pub returns-then-is_bracket-4-clause-plain : goal.returns-then-is_bracket-4-clause-plain
returns-then-is_bracket-4-clause-plain c =
    let octets = c.args.octets.now in
    let all = c.loop-len-test.true in
    let one = plain_more octets c.loop-len.len (omega (arith, all, c.min-end.ensures)) (c.loop-len.len + 1) (omega arith) (sym c.is_bracket.ensures ∙ c.if-is_bracket.false) c.loop-len.invariant.plain in
    let two = plain_more octets (c.loop-len.len + 1) (omega (arith, all, c.min-end.ensures)) (c.loop-len.len + 2) (omega arith) (sym c.is_bracket-in-loop-len.ensures ∙ c.if-is_bracket-2.false) one in
    plain_more octets (c.loop-len.len + 2) (omega (arith, all, c.min-end.ensures)) (c.loop-len.len + 3) (omega arith) (sym c.is_bracket-in-loop-len-2.ensures ∙ c.if-is_bracket-3.false) two

pub returns-then-is_bracket-4-clause-ended : goal.returns-then-is_bracket-4-clause-ended
returns-then-is_bracket-4-clause-ended c = λ few. ended_here c.args.octets.now (c.loop-len.len + 3) (omega (arith, c.loop-len-test.true, c.min-end.ensures)) (sym c.is_bracket-in-loop-len-3.ensures ∙ c.if-is_bracket-4.true)

pub loop-len-preserved : goal.loop-len-preserved
loop-len-preserved c =
    let octets = c.args.octets.now in
    let all = c.loop-len-test.true in
    let one = plain_more octets c.loop-len.len (omega (arith, all, c.min-end.ensures)) (c.loop-len.len + 1) (omega arith) (sym c.is_bracket.ensures ∙ c.if-is_bracket.false) c.loop-len.invariant.plain in
    let two = plain_more octets (c.loop-len.len + 1) (omega (arith, all, c.min-end.ensures)) (c.loop-len.len + 2) (omega arith) (sym c.is_bracket-in-loop-len.ensures ∙ c.if-is_bracket-2.false) one in
    let three = plain_more octets (c.loop-len.len + 2) (omega (arith, all, c.min-end.ensures)) (c.loop-len.len + 3) (omega arith) (sym c.is_bracket-in-loop-len-2.ensures ∙ c.if-is_bracket-3.false) two in
    record { below = omega (arith, all); plain = plain_more octets (c.loop-len.len + 3) (omega (arith, all, c.min-end.ensures)) (c.loop-len.len + 4) (omega arith) (sym c.is_bracket-in-loop-len-3.ensures ∙ c.if-is_bracket-4.false) three }

pub returns-else-not-is_bracket-clause-ended : goal.returns-else-not-is_bracket-clause-ended
returns-else-not-is_bracket-clause-ended c = λ few. ended_here c.args.octets.now c.loop-len-2.len (omega (arith, c.loop-len-2-test.true, c.min-end.ensures)) (sym c.is_bracket-in-loop-len-2-2.ensures ∙ c.if-not-is_bracket.false)

pub returns-after-loop-len-2-clause-ended : goal.returns-after-loop-len-2-clause-ended
returns-after-loop-len-2-clause-ended c = λ few. ended_past c.args.octets.now c.loop-len-2.len (omega (arith, few, c.loop-len-2-test.false, c.min-end.ensures))
