use Rattle.std.proofs.Common.{◌++◌, map, ap, ◌∙◌}
use Rattle.message_film.specs.Looks.{pending, picture_of}
use Rattle.message_film.proofs.ReelLemmas
use Rattle.message_film.proofs.reel.Reel.finish.Goals as goal

pub returns : goal.returns
returns c =
    let old = c.self.inside in
    let w = c.in_ok-write.ensures in
    let f = c.in_ok-octets.ensures in
    let written = w.pictures ∙ ap (λ l. old.writer.pictures ++ map (picture_of old.side old.width old.height) (pending l old.tenths)) c.deref.ensures.value in
    let all = ReelLemmas.finished old.side old.width old.height old.writer c.write.new.writer old.colours.items c.in_ok-octets.octets.items old.tenths c.args.self c.self.invariant c.self.view_is
    written w.size w.palette f.film f.exact f.size in
    record {
      plays = all.plays;
      exact = all.exact;
      size = all.size;
    }
