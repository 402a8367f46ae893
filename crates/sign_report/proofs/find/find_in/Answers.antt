use Rattle.std.proofs.Common.{rules}
use Rattle.sign_report.proofs.DocumentLemmas.{document}
use Rattle.sign_report.proofs.find.find_in.Goals as goal

pub returns-clause-document : goal.returns-clause-document
returns-clause-document c = λ none. document c.args.octets.now (search rules)
