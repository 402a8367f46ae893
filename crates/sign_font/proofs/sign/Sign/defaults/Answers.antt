use Rattle.sign_font.proofs.DefaultLemmas.{own_taken}
use Rattle.sign_font.proofs.sign.Sign.defaults.Goals as goal

pub returns-clause-taken : goal.returns-clause-taken
returns-clause-taken c = own_taken c.args.self.now (rw (c.self.view_is) at c.self.invariant)
