use Rattle.std.proofs.Common.{arith}
use Rattle.std.proofs.lemmas.Bool.Decides.{nat_tests}
use Rattle.sign_file.proofs.NestingLemmas.{goes_on, too_deep, too_many}
use Rattle.sign_file.proofs.nesting.after.Goals as goal

pub returns-then-brackets-eq-MOST_BRACKETS-clause-fits : goal.returns-then-brackets-eq-MOST_BRACKETS-clause-fits
returns-then-brackets-eq-MOST_BRACKETS-clause-fits c octets = too_deep _ _ _ _ octets (grind arith) (grind arith)

pub returns-else-brackets-eq-MOST_BRACKETS-clause-fits : goal.returns-else-brackets-eq-MOST_BRACKETS-clause-fits
returns-else-brackets-eq-MOST_BRACKETS-clause-fits c octets = goes_on _ _ _ _ octets _ _ (grind arith) (grind arith) (grind (arith, nat_tests)) (grind (arith, nat_tests))

pub returns-then-closes-clause-fits : goal.returns-then-closes-clause-fits
returns-then-closes-clause-fits c octets = goes_on _ _ _ _ octets _ _ (grind arith) (grind arith) (grind (arith, nat_tests)) (grind (arith, nat_tests))

pub returns-then-ends_name-clause-fits : goal.returns-then-ends_name-clause-fits
returns-then-ends_name-clause-fits c octets = goes_on _ _ _ _ octets _ _ (grind arith) (grind arith) (grind (arith, nat_tests)) (grind (arith, nat_tests))

pub returns-then-dots-eq-MOST_DOTS-clause-fits : goal.returns-then-dots-eq-MOST_DOTS-clause-fits
returns-then-dots-eq-MOST_DOTS-clause-fits c octets = too_many _ _ _ _ octets (grind arith) (grind arith)

pub returns-else-dots-eq-MOST_DOTS-clause-fits : goal.returns-else-dots-eq-MOST_DOTS-clause-fits
returns-else-dots-eq-MOST_DOTS-clause-fits c octets = goes_on _ _ _ _ octets _ _ (grind arith) (grind arith) (grind (arith, nat_tests)) (grind (arith, nat_tests))

pub returns-else-octet-eq46-clause-fits : goal.returns-else-octet-eq46-clause-fits
returns-else-octet-eq46-clause-fits c octets = goes_on _ _ _ _ octets _ _ (grind arith) (grind arith) (grind (arith, nat_tests)) (grind (arith, nat_tests))
