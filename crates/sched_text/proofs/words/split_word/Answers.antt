use Rattle.std.proofs.Common.{arith}
use Rattle.sched_text.proofs.WordLaws.{last_word, next_word}
use Rattle.sched_text.proofs.words.split_word.Goals as goal

pub returns-in-empty-clause-first : goal.returns-in-empty-clause-first
returns-in-empty-clause-first c =
    (last_word c.args.line.now _ _ _ c.first_space.ensures.first c.first_space.ensures.within c.split_at.ensures.front c.split_at.ensures.back c.in-empty.len_below).0

pub returns-in-empty-clause-rest : goal.returns-in-empty-clause-rest
returns-in-empty-clause-rest c =
    let one = (last_word c.args.line.now _ _ _ c.first_space.ensures.first c.first_space.ensures.within c.split_at.ensures.front c.split_at.ensures.back c.in-empty.len_below).1 in
    λ more. absurd (omega (arith, one, more))

pub returns-in-len1-up-clause-first : goal.returns-in-len1-up-clause-first
returns-in-len1-up-clause-first c =
    (next_word c.args.line.now _ _ _ c.first_space.ensures.first c.split_at.ensures.front c.split_at.ensures.back c.in-len1-up.len_at_least).0

pub returns-in-len1-up-clause-rest : goal.returns-in-len1-up-clause-rest
returns-in-len1-up-clause-rest c = λ _.
    (next_word c.args.line.now _ _ _ c.first_space.ensures.first c.split_at.ensures.front c.split_at.ensures.back c.in-len1-up.len_at_least).1
