use Rattle.std.proofs.Common.{◌≡◌, ◌^◌, ◌<◌, ◌≤◌, true, length, take}
use Rattle.std.specs.List.{list_all}
use Rattle.std.specs.Str.Parse.{digits_value}
use Rattle.octet_text.specs.Digits.{is_digit}
use Rattle.octet_text.proofs.digits.digits_number.Given as goal

abbrev pub invariant-loop-octet : goal.invariant-loop-octet
invariant-loop-octet l = record {
  all : list_all is_digit (take l.octet-index l.digits) ≡ true;
  number : l.number ≡ digits_value 10 (take l.octet-index l.digits);
  small : l.number < 10 ^ l.octet-index;
  short : length l.digits ≤ 10;
}
