use Rattle.std.proofs.Common.{arith, take, slice_index_or, subst, sym, All}
use Rattle.std.proofs.lemmas.List.{take_more}
use Rattle.std.proofs.lemmas.List.Elements.{All-push}
use Rattle.ctrsim_cli.specs.Numbers.{IsDigit}
use Rattle.ctrsim_cli.proofs.Digits.{value_more, ten_more, ten_small}
use Rattle.ctrsim_cli.proofs.numbers.decimal.Goals as goal

pub loop-digit-preserved : goal.loop-digit-preserved
loop-digit-preserved c =
    let word = c.args.word.now in
    let i = c.loop-digit.digit-index in
    let digit : IsDigit (slice_index_or word i 0) = (c.if-digit-lt48.false, c.if-digit-gt57.false) in
    record {
      bound = omega (arith, ten_more i, c.loop-digit.invariant.bound, c.from.ensures, c.if-digit-gt57.false);
      digits = subst (All IsDigit) (sym (take_more word i 0 c.loop-digit-test.true)) (All-push IsDigit (take i word) (slice_index_or word i 0) c.loop-digit.invariant.digits digit);
      value = omega (arith, c.loop-digit.invariant.value, c.from.ensures, value_more word i c.loop-digit-test.true);
    }

pub overflow_mul-value : goal.overflow_mul-value
overflow_mul-value c =
    let small = ten_small c.loop-digit.digit-index c.args.most (omega (arith, c.loop-digit-test.true, c.if-word-most.false)) c.requires in
    omega (arith, small, c.loop-digit.invariant.bound)

pub overflow_add-value : goal.overflow_add-value
overflow_add-value c =
    let small = ten_small c.loop-digit.digit-index c.args.most (omega (arith, c.loop-digit-test.true, c.if-word-most.false)) c.requires in
    omega (arith, small, c.loop-digit.invariant.bound, c.from.ensures, c.if-digit-gt57.false)
