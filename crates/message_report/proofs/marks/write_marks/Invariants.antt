use Rattle.std.proofs.Common.{◌≡◌, drop, length, map, take}
use Rattle.message_report.specs.Pictures.{mark}
use Rattle.message_report.proofs.marks.write_marks.Given as goal

abbrev pub invariant-loop-place : goal.invariant-loop-place
invariant-loop-place l = record {
  size : length l.line ≡ length l.initial.line;
  written : take l.place l.line ≡ map mark (take l.place l.colours);
  behind : drop l.place l.line ≡ drop l.place l.initial.line;
}
