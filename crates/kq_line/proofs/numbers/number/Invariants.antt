-- What was passed is the number so far, which is not 0.
use Rattle.std.proofs.Common.{◌≡◌, ◌<◌, ◌++◌, ◌^◌, decimal, length}
use Rattle.kq_line.proofs.numbers.number.Given as goal

abbrev pub invariant-digits : goal.invariant-digits
invariant-digits l = record {
  some : 0 < l.number;
  fits : l.number < 2 ^ 64;
  cut : l.text ≡ decimal l.number ++ l.rest;
  shorter : length l.rest < length l.text;
}

abbrev pub decreases-digits : goal.decreases-digits
decreases-digits l = length l.rest
