use Rattle.message_film.proofs.ReelLemmas
use Rattle.message_film.proofs.reel.Reel.len.Goals as goal

pub returns : goal.returns
returns c =
    let old = c.self.inside in
    record {
      front = ReelLemmas.front old.side old.width old.height c.len.result old.writer old.colours.items old.tenths c.args.self.now c.self.invariant c.self.view_is c.len.ensures.value;
      most = ReelLemmas.small old.side old.width old.height c.len.result old.writer old.colours.items old.tenths c.args.self.now c.self.invariant c.self.view_is c.len.ensures.most;
    }
