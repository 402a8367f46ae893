use Rattle.std.proofs.Common.{arith, ◌+◌}
use Rattle.multi_token.proofs.RunLemmas.{front_ended, front_more, front_width}
use Rattle.multi_token.proofs.source.run_front.Goals as goal

pub returns-in_default-clause-run : goal.returns-in_default-clause-run
returns-in_default-clause-run c = front_ended c.loop-len.invariant (omega (arith, c.loop-len-test.true)) c.in_default.ensures.none

pub returns-in_default-left_behind-clause-run : goal.returns-in_default-left_behind-clause-run
returns-in_default-left_behind-clause-run c =
    let four = c.loop-len-test.true in
    let one = front_more c.loop-len.invariant (c.loop-len.len + 1) c.in-Some.one (omega arith) (omega (arith, four)) c.in-Some.ensures.some in
    front_ended one (omega (arith, four)) c.in_default-left_behind.ensures.none

pub returns-in_default-left_behind-2-clause-run : goal.returns-in_default-left_behind-2-clause-run
returns-in_default-left_behind-2-clause-run c =
    let four = c.loop-len-test.true in
    let one = front_more c.loop-len.invariant (c.loop-len.len + 1) c.in-Some.one (omega arith) (omega (arith, four)) c.in-Some.ensures.some in
    let two = front_more one (c.loop-len.len + 2) c.in-Some-left_behind.two (omega arith) (omega (arith, four)) c.in-Some-left_behind.ensures.some in
    front_ended two (omega (arith, four)) c.in_default-left_behind-2.ensures.none

pub returns-in_default-left_behind-3-clause-run : goal.returns-in_default-left_behind-3-clause-run
returns-in_default-left_behind-3-clause-run c =
    let four = c.loop-len-test.true in
    let one = front_more c.loop-len.invariant (c.loop-len.len + 1) c.in-Some.one (omega arith) (omega (arith, four)) c.in-Some.ensures.some in
    let two = front_more one (c.loop-len.len + 2) c.in-Some-left_behind.two (omega arith) (omega (arith, four)) c.in-Some-left_behind.ensures.some in
    let three = front_more two (c.loop-len.len + 3) c.in-Some-left_behind-2.three (omega arith) (omega (arith, four)) c.in-Some-left_behind-2.ensures.some in
    front_ended three (omega (arith, four)) c.in_default-left_behind-3.ensures.none

pub returns-in_default-left_behind-3-clause-width : goal.returns-in_default-left_behind-3-clause-width
returns-in_default-left_behind-3-clause-width c =
    let four = c.loop-len-test.true in
    let one = front_more c.loop-len.invariant (c.loop-len.len + 1) c.in-Some.one (omega arith) (omega (arith, four)) c.in-Some.ensures.some in
    let two = front_more one (c.loop-len.len + 2) c.in-Some-left_behind.two (omega arith) (omega (arith, four)) c.in-Some-left_behind.ensures.some in
    front_width (front_more two (c.loop-len.len + 3) c.in-Some-left_behind-2.three (omega arith) (omega (arith, four)) c.in-Some-left_behind-2.ensures.some)

pub loop-len-preserved : goal.loop-len-preserved
loop-len-preserved c =
    let four = c.loop-len-test.true in
    let one = front_more c.loop-len.invariant (c.loop-len.len + 1) c.in-Some.one (omega arith) (omega (arith, four)) c.in-Some.ensures.some in
    let two = front_more one (c.loop-len.len + 2) c.in-Some-left_behind.two (omega arith) (omega (arith, four)) c.in-Some-left_behind.ensures.some in
    let three = front_more two (c.loop-len.len + 3) c.in-Some-left_behind-2.three (omega arith) (omega (arith, four)) c.in-Some-left_behind-2.ensures.some in
    front_more three (c.loop-len.len + 4) c.in-Some-left_behind-3.four (omega arith) (omega (arith, four)) c.in-Some-left_behind-3.ensures.some

pub returns-in_default-left_behind-4-clause-run : goal.returns-in_default-left_behind-4-clause-run
returns-in_default-left_behind-4-clause-run c = front_ended c.loop-len-2.invariant (omega (arith, c.loop-len-2-test.true)) c.in_default-left_behind-4.ensures.none
