use Rattle.std.proofs.lemmas.Bool.{OnTrue_at, OnTrue_from, OnFalse_at, OnFalse_from}
use Rattle.block_check.specs.Rules.{Meets}
use Rattle.perf_sample.specs.declared.sample.Branch.{Branch}
use Rattle.block_check.specs.declared.rules.Why.TheVariants.{Gap}
use Rattle.block_check.proofs.FaultLemmas.{gap_of, no_gap_of}
use Rattle.block_check.proofs.rules.meets_gap.Goals as goal

abbrev none : Branch
none = record { from = 0; to = 0; flags = 0 }

pub returns-in-len1-up-clause-yes : goal.returns-in-len1-up-clause-yes
returns-in-len1-up-clause-yes c =
    OnTrue_from c.follows.result (Meets Gap c.args.image.now c.args.branch c.args.older.now)
    (λ t. gap_of c.args.image.now c.args.branch c.args.older.now none c.in-len1-up.len_at_least (OnTrue_at t c.follows.ensures.yes))

pub returns-in-len1-up-clause-no : goal.returns-in-len1-up-clause-no
returns-in-len1-up-clause-no c =
    OnFalse_from c.follows.result (Meets Gap c.args.image.now c.args.branch c.args.older.now → ⊥)
    (λ t. no_gap_of c.args.image.now c.args.branch c.args.older.now none c.in-len1-up.len_at_least
    (OnFalse_at t c.follows.ensures.no))
