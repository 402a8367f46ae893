use Rattle.std.proofs.Common.{inr, subst, arith, Err}
use Rattle.tool_streams.specs.Streams.{WritesWhole}
use Rattle.sign_aids.proofs.explain.Asker.tell_last.Goals as goal

pub returns-in-Err : goal.returns-in-Err
returns-in-Err g c =
    let written = subst (λ t. WritesWhole (g.W.Write.contents c.args.writer.now) (g.W.Write.contents c.write_whole.new.writer) t (Err c.in-Err.fault)) c.octets.ensures c.in-Err.ensures.written in
    inr (omega (arith, c.if-line-gt-MAX_LINE.false), inr (c.explain.new.text, c.in-Ok.told, c.in-Ok.ensures.told, written))
