use Rattle.std.proofs.Common.{inl, rules}
use Rattle.sign_aids.proofs.picture.run_picture.Goals as goal

pub returns-in-Err : goal.returns-in-Err
returns-in-Err g c = record { drawn = inl (search rules, c.in-Err.ensures.fault) }
