use Rattle.std.proofs.Common.{◌≡◌, ◌<◌, ◌^◌, take, true}
use Rattle.std.specs.List.{list_all}
use Rattle.std.specs.Str.Parse.{digits_value}
use Rattle.htp_line.specs.Reading.{is_digit}
use Rattle.htp_line.proofs.request.read_number.Given as goal

-- the digits so far, and their value
abbrev pub invariant-loop-b : goal.invariant-loop-b
invariant-loop-b l = record {
  value : l.value ≡ digits_value 10 (take l.b-index l.word);
  bound : l.value < 10 ^ l.b-index;
  digits : list_all is_digit (take l.b-index l.word) ≡ true;
}
