use Rattle.std.proofs.Common.{◌≡◌, ◌^◌, ◌<◌, take, All}
use Rattle.ctrsim_cli.specs.Numbers.{IsDigit, value_of}
use Rattle.ctrsim_cli.proofs.numbers.decimal.Given as goal

abbrev pub invariant-loop-digit : goal.invariant-loop-digit
invariant-loop-digit l = record {
  bound : l.value < 10 ^ l.digit-index;
  digits : All IsDigit (take l.digit-index l.word);
  value : l.value ≡ value_of (take l.digit-index l.word);
}
