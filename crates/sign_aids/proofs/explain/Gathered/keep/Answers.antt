use Rattle.std.proofs.Common.{◌++◌, Err, subst, sym, ◌∙◌}
use Rattle.std.specs.Io.KnownBytes.{Appends}
use Rattle.tool_streams.specs.Streams.{WritesWhole}
use Rattle.sign_aids.specs.internal.Explaining.{WritesFront}
use Rattle.sign_aids.proofs.HeldLemmas
use Rattle.sign_aids.proofs.explain.Gathered.keep.Goals as goal

pub returns-in-Ok : goal.returns-in-Ok
returns-in-Ok g c =
    let ready = c.args.self.now.ready.items in
    let text = c.args.self.now.text in
    let output = g.W.Write.contents c.args.writer.now in
    let middle = g.W.Write.contents c.write.new.writer in
    let output' = g.W.Write.contents c.write_whole.new.writer in
    let first = subst (Appends output middle) c.if-gather.ensures.ready c.in-Ok.ensures.written in
    let last = subst (λ l. WritesWhole middle output' l c.write_whole.result) (c.octets.ensures ∙ c.in-Ok.ensures.text ∙ c.if-gather.ensures.text) c.write_whole.ensures.written in
    subst (λ l. WritesFront output output' (ready ++ text) l c.write_whole.result) (sym c.in-Ok.ensures.none) (HeldLemmas.writes_both output middle output' ready text c.write_whole.result first last)

pub returns-in-Err : goal.returns-in-Err
returns-in-Err g c =
    let written = subst (λ l. WritesWhole (g.W.Write.contents c.args.writer.now) (g.W.Write.contents c.write.new.writer) l (Err c.in-Err.fault)) c.if-gather.ensures.ready c.in-Err.ensures.written in
    HeldLemmas.writes_part _ _ c.args.self.now.ready.items c.args.self.now.text c.in-Err.fault written
