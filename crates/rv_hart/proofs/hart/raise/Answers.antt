use Rattle.std.proofs.Common.{◌≡◌, refl, arith}
use Rattle.std.specs.Int.Bits.{or_zero_r}
use Rattle.rv_hart.proofs.hart.raise.Goals as goal

pub returns-else-pending-ne0 : goal.returns-else-pending-ne0
returns-else-pending-ne0 c =
    let none : c.args.pending ≡ 0 = omega (arith, c.if-pending-ne0.false) in
    rw (none, or_zero_r c.args.csrs.now.mip) refl
