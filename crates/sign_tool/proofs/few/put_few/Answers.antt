use Rattle.std.proofs.lemmas.List.{take_at}
use Rattle.sign_tool.proofs.few.put_few.Goals as goal

pub returns-clause-written : goal.returns-clause-written
returns-clause-written g c = take_at c.args.few.now _ g.row.N c.told-few
