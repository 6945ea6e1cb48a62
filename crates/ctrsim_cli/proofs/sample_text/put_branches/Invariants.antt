use Rattle.std.proofs.Common.{◌≡◌, ◌+◌, ◌*◌, ◌≤◌, ◌++◌, take}
use Rattle.std.specs.List.{flat_map}
use Rattle.arrayvec.specs.ArrayVec.{array_vec_len}
use Rattle.ctrsim_cli.specs.SampleText.{shown_branch}
use Rattle.ctrsim_cli.proofs.sample_text.put_branches.Given as goal

abbrev pub invariant-loop-branch : goal.invariant-loop-branch
invariant-loop-branch l =
    (l.out.items ≡ l.fn.out.items ++ flat_map shown_branch (take l.branch-index l.branches))
    × (array_vec_len l.out ≤ array_vec_len l.fn.out + 68 * l.branch-index)
