use Rattle.std.proofs.Common.{◌-◌, ◌≤◌, take}
use Rattle.std.specs.List.{All}
use Rattle.multi_token.specs.Spelling.{IsPlain}
use Rattle.multi_token.proofs.source.plain_front.Given as goal

abbrev pub invariant-loop-len : goal.invariant-loop-len
invariant-loop-len l = record {
  below : l.len ≤ l.end;
  plain : All IsPlain (take l.len l.octets);
}

abbrev pub decreases-loop-len : goal.decreases-loop-len
decreases-loop-len l = l.end - l.len

abbrev pub invariant-loop-len-2 : goal.invariant-loop-len-2
invariant-loop-len-2 l = record {
  below : l.len ≤ l.end;
  plain : All IsPlain (take l.len l.octets);
}

abbrev pub decreases-loop-len-2 : goal.decreases-loop-len-2
decreases-loop-len-2 l = l.end - l.len
