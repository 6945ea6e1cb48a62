use Rattle.std.proofs.Common.{◌≡◌, ◌+◌, ◌*◌, ◌++◌, take}
use Rattle.std.specs.List.{flat_map}
use Rattle.arrayvec.specs.ArrayVec.{array_vec_len}
use Rattle.perf_sample.specs.Spelling.{branch_bytes}
use Rattle.perf_sample.proofs.writing.put_branches.Given as goal

abbrev pub invariant-loop-branch : goal.invariant-loop-branch
invariant-loop-branch l =
    (l.out.items ≡ l.fn.out.items ++ flat_map branch_bytes (take l.branch-index l.branches))
    × (array_vec_len l.out ≡ array_vec_len l.fn.out + 24 * l.branch-index)
