use Rattle.std.proofs.Common.{rules, ◌≡◌, ℕ, ◌+◌, List, drop, get_or, arith, Ok, Err, ◌↔◌, ap, subst}
use Rattle.perf_sample.specs.declared.sample.Branch.{Branch}
use Rattle.block_check.specs.declared.rules.Broken.{Broken}
use Rattle.block_check.specs.Rules.{IsFine, Breaks}
use Rattle.block_check.specs.Plausible.{FirstBreaks, IsPlausible, IsFault}
use Rattle.std.specs.declared.result.Result.{Result}
use Rattle.block_check.proofs.FaultLemmas.{has_none, one_fault, fine_at, breaks_at, fine_more}
use Rattle.block_check.proofs.checking.check_branches.Goals as goal

abbrev none : Branch
none = record { from = 0; to = 0; flags = 0 }

pub loop-number-preserved : goal.loop-number-preserved
loop-number-preserved c =
    let image = c.args.image.now in
    let branches = c.args.branches.now in
    let n = c.loop-number.number in
    let fine : IsFine image (get_or branches n none) (drop (n + 1) branches) = search rules in
    fine_more image branches n c.loop-number.invariant (fine_at image branches n none (omega (arith, c.loop-number-test.true)) fine)

found_fault : (image : List ℕ) (branches : List Branch) (f : Broken) → IsFault image branches f → (◌≡◌ {A = Result (Unit {0}) Broken} (Err f) (Ok tt)) ↔ IsPlausible image branches
found_fault image branches f fault = (λ e. absurd (cc e), λ fine. absurd (has_none image branches f fine fault))

pub returns-in-Some-clause-plausible : goal.returns-in-Some-clause-plausible
returns-in-Some-clause-plausible c =
    let image = c.args.image.now in
    let branches = c.args.branches.now in
    let found : Broken = record { branch = c.loop-number.number; why = c.in-Some.why } in
    let n = c.loop-number.number in
    let broken : Breaks c.in-Some.why image (get_or branches n none) (drop (n + 1) branches) = search rules in
    let breaks : FirstBreaks c.in-Some.why image (drop n branches) = breaks_at c.in-Some.why image branches n none (omega (arith, c.loop-number-test.true)) broken in
    found_fault image branches found (record { before = c.loop-number.invariant; breaks = breaks })

pub returns-in-Some-clause-broken : goal.returns-in-Some-clause-broken
returns-in-Some-clause-broken c = λ f.
    let image = c.args.image.now in
    let branches = c.args.branches.now in
    let found : Broken = record { branch = c.loop-number.number; why = c.in-Some.why } in
    let n = c.loop-number.number in
    let broken : Breaks c.in-Some.why image (get_or branches n none) (drop (n + 1) branches) = search rules in
    let breaks : FirstBreaks c.in-Some.why image (drop n branches) = breaks_at c.in-Some.why image branches n none (omega (arith, c.loop-number-test.true)) broken in
    let fault : IsFault image branches found = record { before = c.loop-number.invariant; breaks = breaks } in (
      λ e. let same : found ≡ f = cc e in subst (IsFault image branches) same fault,
      λ g. ap (λ (x : Broken). Err x) (one_fault image branches found f fault g),
    )
