-- How many accesses to control transfer registers a monitor makes for a unit of so many entries: 4 for each entry, of
-- which one selects it, and those around them.
use Rattle.std.specs.Prelude.{ℕ, ◌+◌, ◌*◌}

-- saving reads the two controls, the depth, the status and the select; of each entry it selects it and reads its parts
abbrev pub save_cost : ℕ → ℕ
save_cost entries = 5 + 4 * entries

-- restoring clears the buffer too; of each entry it selects it and writes its parts
abbrev pub restore_cost : ℕ → ℕ
restore_cost entries = 6 + 4 * entries

-- reading the stack reads the depth and the select, and writes the select back at the end
abbrev pub read_cost : ℕ → ℕ
read_cost entries = 3 + 4 * entries
