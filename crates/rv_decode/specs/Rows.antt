-- Which words are which instructions, by the table of instructions (RISC-V Unprivileged ISA,
-- "RV32/64G Instruction Set Listings").
use Rattle.std.specs.Prelude.{ℕ, zero, suc, ◌≡◌, ◌⊎◌, List, [], ◌∷◌, Bool, true, cond, nat_eq, ◌&&◌, Option, None, Some}
use Rattle.ctr_bits.specs.Field.{field_of}
use Rattle.rv_decode.specs.declared.instruction.Instr.{Instr}
pub use Rattle.rv_decode.specs.Numbers.{NumbersFit}
use Rattle.rv_decode.specs.Table.{Test, Rule, table}

-- the word passes every test
abbrev pub Selects : List Test → ℕ → Type 0
Selects [] w = Unit {0}
Selects (t ∷ ts) w = (field_of t.lo t.len w ≡ t.value) × Selects ts w

-- the instruction is that of some row that has the word
abbrev pub RowIn : List Rule → ℕ → Instr → Type 0
RowIn [] w i = ⊥
RowIn (r ∷ rs) w i = (Selects r.tests w × (i ≡ r.gives w)) ⊎ RowIn rs w i

-- closed, as instruction_of is, so that no goal of a crate above spells the table out
unfoldable pub Row : ℕ → Instr → Type 0
Row w i = RowIn table w i

-- the row at this place, counted from 0, has the word
abbrev pub RowAt : List Rule → ℕ → ℕ → Type 0
RowAt [] place w = ⊥
RowAt (r ∷ rs) zero w = Selects r.tests w
RowAt (r ∷ rs) (suc place) w = RowAt rs place w

-- the same as functions: the instruction of the first row that has the word
abbrev pub passes : List Test → ℕ → Bool
passes [] w = true
passes (t ∷ ts) w = nat_eq (field_of t.lo t.len w) t.value && passes ts w

abbrev pub first_row : List Rule → ℕ → Option Instr
first_row [] w = None
first_row (r ∷ rs) w = cond (passes r.tests w) (Some (r.gives w)) (first_row rs w)

unfoldable pub instruction_of : ℕ → Option Instr
instruction_of w = first_row table w
