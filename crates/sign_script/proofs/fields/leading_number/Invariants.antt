use Rattle.std.proofs.Common.{◌≡◌, ◌^◌, ◌<◌, true, take}
use Rattle.std.specs.List.{list_all}
use Rattle.std.specs.Str.Parse.{digits_value}
use Rattle.octet_text.specs.Digits.{is_digit}
use Rattle.sign_script.proofs.fields.leading_number.Given as goal

abbrev pub invariant-loop-index : goal.invariant-loop-index
invariant-loop-index l = record {
  digits : list_all is_digit (take l.index l.text) ≡ true;
  value : l.number ≡ digits_value 10 (take l.index l.text);
  small : l.number < 10 ^ l.index;
}
