use Rattle.std.proofs.Common.{◌≡◌, length, arith, sym}
use Rattle.std.proofs.lemmas.Bool.{eq-eqb}
use Rattle.std.proofs.lemmas.List.Sums.{position_or_len_is}
use Rattle.sched_text.specs.Lines.{is_space}
use Rattle.sched_text.proofs.words.first_space.Goals as goal

pub returns-then-line-at-eq32-clause-first : goal.returns-then-line-at-eq32-clause-first
returns-then-line-at-eq32-clause-first c =
    sym (position_or_len_is is_space c.args.line.now c.loop-at.at 0 (omega arith) c.loop-at.invariant (λ _. eq-eqb _ 32 c.if-line-at-eq32.true))

pub returns-clause-first : goal.returns-clause-first
returns-clause-first c =
    let line = c.args.line.now in
    let whole : c.loop-at.at ≡ length line = omega (arith, c.loop-at-test.false, c.loop-at.auto.at-end) in
    sym (position_or_len_is is_space line (length line) 0 (omega arith) (rw whole at c.loop-at.invariant) (λ more. absurd (omega (arith, more))))
