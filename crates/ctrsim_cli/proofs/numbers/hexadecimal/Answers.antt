use Rattle.std.proofs.Common.{arith, take, slice_index_or, subst, sym, All}
use Rattle.std.proofs.lemmas.List.{take_more}
use Rattle.std.proofs.lemmas.List.Elements.{All-push}
use Rattle.ctrsim_cli.specs.Numbers.{IsHexDigit}
use Rattle.ctrsim_cli.proofs.Digits.{hex_value_more, sixteen_more, sixteen_small}
use Rattle.ctrsim_cli.proofs.numbers.hexadecimal.Goals as goal

pub loop-digit-preserved : goal.loop-digit-preserved
loop-digit-preserved c =
    let word = c.args.word.now in
    let i = c.loop-digit.digit-index in
    let digit = c.in_ok-hex_digit.ensures.some in
    record {
      bound = omega (arith, sixteen_more i, c.loop-digit.invariant.bound, c.from.ensures, digit.2);
      digits = subst (All IsHexDigit) (sym (take_more word i 0 c.loop-digit-test.true)) (All-push IsHexDigit (take i word) (slice_index_or word i 0) c.loop-digit.invariant.digits digit.0);
      value = omega (arith, c.loop-digit.invariant.value, c.from.ensures, digit.1, hex_value_more word i c.loop-digit-test.true);
    }

pub overflow_mul-value : goal.overflow_mul-value
overflow_mul-value c =
    let small = sixteen_small c.loop-digit.digit-index (omega (arith, c.loop-digit-test.true, c.if-word-gt16.false)) in
    omega (arith, small, c.loop-digit.invariant.bound)

pub overflow_add-value : goal.overflow_add-value
overflow_add-value c =
    let small = sixteen_small c.loop-digit.digit-index (omega (arith, c.loop-digit-test.true, c.if-word-gt16.false)) in
    omega (arith, small, c.loop-digit.invariant.bound, c.from.ensures, c.in_ok-hex_digit.ensures.some.2)
