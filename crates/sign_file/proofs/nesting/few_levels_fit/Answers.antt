use Rattle.std.proofs.Common.{suc, length}
use Rattle.std.proofs.lemmas.Bool.{and_parts}
use Rattle.sign_file.proofs.PassedDocument.{few_levels_fit}
use Rattle.sign_file.proofs.nesting.few_levels_fit.Goals as goal

pub returns : goal.returns
returns c text keys is shallow =
    let (most, ok) = few_levels_fit text keys is shallow in
    (and_parts _ _ (ok.fits (suc (length text)))).0
