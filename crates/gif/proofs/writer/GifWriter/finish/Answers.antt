use Rattle.std.proofs.Common.{Some, ap, ◌∙◌}
use Rattle.gif.proofs.WriterLemmas
use Rattle.gif.proofs.writer.GifWriter.finish.Goals as goal

pub returns-clause-film : goal.returns-clause-film
returns-clause-film c =
    let old = c.self.inside in
    WriterLemmas.ended old.width old.height old.octets.items c.push_end.new.octets.items c.self.invariant.0 c.in_ok-push_end.ensures ∙ ap Some c.self.view_is
