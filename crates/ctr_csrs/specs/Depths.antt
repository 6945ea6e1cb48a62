-- The depths of a record buffer (RISC-V Control Transfer Records 1.0, register sctrdepth).
use Rattle.std.specs.Prelude.{ℕ, ◌*◌, ◌^◌, cond, nat_eq, Option, Some, None}
use Rattle.ctr_csrs.specs.declared.depth.Depth.{Depth}
use Rattle.ctr_csrs.specs.declared.depth.Depth.TheVariants.{D16, D32, D64, D128, D256}

-- what sctrdepth holds for a depth
abbrev pub code_of : Depth → ℕ
code_of D16 = 0
code_of D32 = 1
code_of D64 = 2
code_of D128 = 3
code_of D256 = 4

-- how many entries there are: each code doubles them
abbrev pub entries_of : Depth → ℕ
entries_of depth = 16 * 2 ^ code_of depth

-- the depth of a code; the codes from 5 up name none
abbrev pub depth_at : ℕ → Option Depth
depth_at code =
    cond (nat_eq code 0) (Some D16)
    (cond (nat_eq code 1) (Some D32)
    (cond (nat_eq code 2) (Some D64)
    (cond (nat_eq code 3) (Some D128)
    (cond (nat_eq code 4) (Some D256) None))))
