use Rattle.std.proofs.Common.{◌≡◌, ◌^◌, min, take, true, nat_lt}
use Rattle.std.specs.List.{list_all}
use Rattle.sched_text.specs.Numbers.{digit_value, digits_value}
use Rattle.sched_text.proofs.words.number.Given as goal

abbrev pub invariant-loop-byte : goal.invariant-loop-byte
invariant-loop-byte l =
    (list_all (λ d. nat_lt (digit_value d) l.base) (take l.byte-index l.word) ≡ true)
    × (l.value ≡ min (digits_value l.base (take l.byte-index l.word)) (2 ^ 64))
