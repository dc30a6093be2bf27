use Rattle.std.proofs.Common.{◌≡◌, ◌<◌, ◌^◌, take}
use Rattle.std.specs.Str.Parse.{AllDigits, digits_value}
use Rattle.win_cert.proofs.values.value_of.Given as goal

-- the digits so far, and their value
abbrev pub invariant-loop-b : goal.invariant-loop-b
invariant-loop-b l = record {
  value : l.value ≡ digits_value 10 (take l.b-index l.word);
  bound : l.value < 10 ^ l.b-index;
  digits : AllDigits 10 (take l.b-index l.word);
}
