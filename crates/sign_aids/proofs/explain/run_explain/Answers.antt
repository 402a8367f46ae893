use Rattle.std.proofs.Common.{inl}
use Rattle.sign_aids.specs.Explain.{asking_of}
use Rattle.sign_aids.proofs.NextLemmas
use Rattle.sign_aids.proofs.explain.run_explain.Goals as goal

pub returns-in_default : goal.returns-in_default
returns-in_default g c =
    let (taken, took, leads) = c.in-Ok.ensures.starts in
    let setup = c.in-Ok.start.setup in
    let between = g.R.Read.remaining c.begin.new.reader in
    record {
      explained = inl (taken, setup, c.in-Ok.start.place, between, leads, took, NextLemmas.begins_none (asking_of setup c.args.telling c.args.name.now c.args.before) _ between _);
    }
