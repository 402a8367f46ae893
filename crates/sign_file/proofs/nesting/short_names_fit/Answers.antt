use Rattle.std.proofs.Common.{suc, length}
use Rattle.sign_file.specs.Nesting.{is_shallow}
use Rattle.sign_file.proofs.PassedDocument.{short_names_fit}
use Rattle.sign_file.proofs.nesting.short_names_fit.Goals as goal

pub returns : goal.returns
unfolding is_shallow
returns c text keys is shallow short = (short_names_fit text keys is shallow short).fits (suc (length text))
