use Rattle.std.proofs.Common.{inr}
use Rattle.sign_aids.proofs.explain.Asker.tell.Goals as goal

pub returns-in-Err : goal.returns-in-Err
returns-in-Err g c = inr (c.explain.new.text, c.in-Ok.told, c.in-Ok.ensures.told, c.in-Err.ensures)
