use Rattle.std.proofs.Common.{length, ◌-◌, take}
use Rattle.multi_token.specs.Run.{IsLastSpace}
use Rattle.multi_token.proofs.RunLemmas.{Front}
use Rattle.multi_token.proofs.source.words_front.Given as goal

abbrev pub invariant-loop-len : goal.invariant-loop-len
invariant-loop-len l = record {
  front : Front l.table l.gap l.room l.octets l.len l.left;
  space : IsLastSpace l.table l.gap (take l.len l.octets) l.space;
}

abbrev pub decreases-loop-len : goal.decreases-loop-len
decreases-loop-len l = length l.octets - l.len
