use Rattle.std.proofs.Common.{rules, ◌≡◌, inl, inr, subst, arith}
use Rattle.std.proofs.lemmas.Bool.{cases_lt}
use Rattle.block_check.specs.Straight.{RunsOnAt}
use Rattle.block_check.proofs.straight.is_straight.Goals as goal

pub loop-address-preserved : goal.loop-address-preserved
loop-address-preserved c =
    let here = c.loop-address.address in
    let now : RunsOnAt c.args.image.now here = search rules in (
      omega (arith, c.loop-address.invariant.0),
      omega (arith, c.loop-address-test.true, c.if-end-ne0.false, c.loop-address.invariant.2),
      omega (arith, c.loop-address.invariant.2),
      λ a low high aligned. elim (cases_lt a here) [
        | inl less ↦ c.loop-address.invariant.3 a low less aligned
        | inr more ↦
            let same : here ≡ a = omega (arith, more, high, aligned, c.loop-address.invariant.2) in
            subst (RunsOnAt c.args.image.now) same now
      ],
    )
