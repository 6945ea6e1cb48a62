-- The pairs of source and target that branches have, and how often each comes.
use Rattle.std.specs.Prelude.{ℕ, ◌+◌, Bool, ◌&&◌, ◌==◌, nat_eq, if◌then◌else◌, List, [], ◌∷◌}
use Rattle.std.specs.List.{count_by}
use Rattle.perf_sample.specs.declared.sample.Branch.{Branch}

-- the branch left the one address and went to the other
abbrev pub has_pair : ℕ → ℕ → Branch → Bool
has_pair from to b = b.from == from && b.to == to

-- how many branches did
abbrev pub count_of : ℕ → ℕ → List Branch → ℕ
count_of from to branches = count_by (has_pair from to) branches

-- how many pairs there are: of the branches with one pair, the last counts
unfoldable pub pair_count : List Branch → ℕ
pair_count [] = 0
pair_count (b ∷ rest) =
    (if nat_eq (count_of b.from b.to rest) 0 then 1 else 0) + pair_count rest
