use Rattle.std.proofs.Common.{◌≡◌, ◌+◌, take}
use Rattle.std.specs.List.{count_by}
use Rattle.sched_text.specs.Lines.{is_space}
use Rattle.sched_text.proofs.words.word_count.Given as goal

abbrev pub invariant-loop-byte : goal.invariant-loop-byte
invariant-loop-byte l = l.count ≡ count_by is_space (take l.byte-index l.line) + 1
