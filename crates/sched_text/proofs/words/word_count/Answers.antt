use Rattle.std.proofs.Common.{◌≡◌, ◌∙◌, arith, take}
use Rattle.std.proofs.lemmas.List.{take_all}
use Rattle.sched_text.proofs.WordLaws.{words_count}
use Rattle.sched_text.proofs.words.word_count.Goals as goal

pub returns-clause-count : goal.returns-clause-count
returns-clause-count c =
    let line = c.args.line.now in
    let whole : take c.loop-byte.byte-index line ≡ line = take_all c.loop-byte.byte-index line (omega (arith, c.loop-byte-test.false)) in
    (rw whole at c.loop-byte.invariant) ∙ words_count line
