use Rattle.std.proofs.Common.{◌≡◌, ◌*◌, ◌==◌, true, take}
use Rattle.std.specs.List.{list_all}
use Rattle.page_picture.proofs.write.is_dark.Given as goal

abbrev pub invariant-loop-word : goal.invariant-loop-word
invariant-loop-word l = list_all (λ octet. octet == 0) (take (8 * l.word) l.octets) ≡ true
