use Rattle.std.proofs.Common.{rules, refl}
use Rattle.block_check.specs.Rules.{Meets}
use Rattle.block_check.specs.declared.rules.Why.TheVariants.{Target, Gap}
use Rattle.block_check.proofs.rules.branch_fault.Goals as goal

pub returns-then-not-meets_gap-clause-some : goal.returns-then-not-meets_gap-clause-some
returns-then-not-meets_gap-clause-some c =
    let own : Meets Target c.args.image.now c.args.branch c.args.older.now = c.in_default.ensures.none refl c.args.older.now in
    let gap : Meets Gap c.args.image.now c.args.branch c.args.older.now → ⊥ = search rules in
    (own, gap)

pub returns-clause-none : goal.returns-clause-none
returns-clause-none c = λ e.
    let own : Meets Target c.args.image.now c.args.branch c.args.older.now = c.in_default.ensures.none refl c.args.older.now in
    let gap : Meets Gap c.args.image.now c.args.branch c.args.older.now = search rules in
    record { own = own; gap = gap }
