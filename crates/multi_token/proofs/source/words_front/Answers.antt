use Rattle.std.proofs.Common.{◌+◌, ◌≡◌, ap, arith, get_or}
use Rattle.multi_token.proofs.RunLemmas.{front_ended, front_more, front_whole, front_width, space_here, space_stays}
use Rattle.multi_token.proofs.source.words_front.Goals.{else-loop-len-test, then-loop-len-test+then-left-advance, then-octet-eq32, else-octet-eq32}
use Rattle.multi_token.proofs.source.words_front.Goals as goal

pub loop-len-preserved : goal.loop-len-preserved
loop-len-preserved c =
    let i = c.loop-len.invariant in
    let short = c.loop-len-test.true in
    let octets = c.args.octets.now in
    let table = c.args.table.now in
    let wide : c.from-in-loop-len.result ≡ get_or table (get_or octets c.loop-len.len 0) 0 = omega (arith, ap (λ k. get_or table k 0) c.from.ensures, c.from-in-loop-len.ensures) in
    let fits = c.if-left-advance.false in
    let width = front_width i.front in
    record {
      front = front_more i.front (c.loop-len.len + 1) _ (omega arith) short (omega (arith, wide, fits));
      space = elim c.if-octet-eq32.branch [
        | then-octet-eq32 w ↦ rw w.space-is (space_here table c.args.gap octets c.loop-len.len short w.if-octet-eq32.true _ _ width (omega (arith, wide)))
        | else-octet-eq32 w ↦ rw w.space-is (space_stays table c.args.gap octets c.loop-len.len short w.if-octet-eq32.false c.loop-len.space i.space)
      ];
    }

pub returns-clause-run : goal.returns-clause-run
returns-clause-run c =
    let i = c.loop-len.invariant in
    elim c.loop-len-test.branch [
      | else-loop-len-test w ↦ front_whole i.front (omega (arith, w.loop-len-test.false))
      | then-loop-len-test+then-left-advance w ↦
          front_ended i.front (omega (arith, w.loop-len-test.true)) (omega (arith, w.if-left-advance.true, ap (λ k. get_or c.args.table.now k 0) w.from.ensures, w.from-in-loop-len.ensures))
    ]
