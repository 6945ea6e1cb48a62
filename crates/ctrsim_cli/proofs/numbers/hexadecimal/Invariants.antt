use Rattle.std.proofs.Common.{◌≡◌, ◌^◌, ◌<◌, take, All}
use Rattle.ctrsim_cli.specs.Numbers.{IsHexDigit, hex_value_of}
use Rattle.ctrsim_cli.proofs.numbers.hexadecimal.Given as goal

abbrev pub invariant-loop-digit : goal.invariant-loop-digit
invariant-loop-digit l = record {
  bound : l.value < 16 ^ l.digit-index;
  digits : All IsHexDigit (take l.digit-index l.word);
  value : l.value ≡ hex_value_of (take l.digit-index l.word);
}
