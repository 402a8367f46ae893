use Rattle.std.proofs.Common.{◌≡◌, ◌-◌, ◌*◌, ◌==◌, drop, take, true}
use Rattle.std.specs.List.{list_all}
use Rattle.page_picture.proofs.rows.are_all.Given as goal

abbrev pub invariant-loop-word : goal.invariant-loop-word
invariant-loop-word l = record {
  front : l.same ≡ true → list_all (λ other. other == l.octet) (take (8 * l.word) l.octets) ≡ true;
  end : l.same ≡ true → list_all (λ other. other == l.octet) (drop (l.count - 8) l.octets) ≡ true;
}
