-- One access to a register by an instruction (RISC-V Unprivileged ISA, "Zicsr"; Control Transfer Records 1.0 on entry
-- registers whose select names none).
use Rattle.std.specs.Prelude.{◌≡◌, ℕ, ◌-◌, ◌^◌, Bool, true, false, Option, Some, None, Result, Ok, Err, bit_and, bit_or}
use Rattle.ctr_csrs.specs.declared.mode.Mode.{Mode}
use Rattle.guest_modes.specs.declared.gating.CsrFault.{CsrFault}
use Rattle.guest_modes.specs.declared.gating.CsrFault.TheVariants.{Illegal}
use Rattle.guest_modes.specs.declared.registers.Priv.{Priv}
use Rattle.guest_modes.specs.Gate.{gate_answer}
use Rattle.ctr_buffer.specs.declared.event.Event.{Event}
use Rattle.indirect_regs.specs.declared.accessing.CsrUse.{CsrUse}
use Rattle.indirect_regs.specs.declared.accessing.CsrUse.TheVariants.{Read, Write, Set, Clear}
use Rattle.indirect_regs.specs.Unit.{UnitState, after_any}
use Rattle.indirect_regs.specs.Table.{Row, row_of}

-- whether the access writes, also where the value stays
abbrev pub is_write : CsrUse → Bool
is_write Read = false
is_write (Write value) = true
is_write (Set bits) = true
is_write (Clear bits) = true

-- what is written over the old value
abbrev pub new_value : CsrUse → ℕ → Option ℕ
new_value Read old = None
new_value (Write value) old = Some value
new_value (Set bits) old = Some (bit_or old bits)
new_value (Clear bits) old = Some (bit_and old (2 ^ 64 - 1 - bits))

-- what an access leaves: its answer, the unit, the other registers, and the event of the record buffer that it was
pub record AccessResult : Type 0 where
  pub answer : Result ℕ CsrFault
  pub unit : UnitState
  pub registers : Priv
  pub event : Option Event

-- nothing is changed
abbrev pub unchanged : UnitState → Priv → Result ℕ CsrFault → AccessResult
unchanged u p answer = record { answer = answer; unit = u; registers = p; event = None }

-- a value is written to a register, if there is one
abbrev pub put_in : Row → UnitState → Priv → ℕ → Option ℕ → AccessResult
put_in row u p old None = unchanged u p (Ok old)
put_in row u p old (Some value) = record {
  answer = Ok old;
  unit = record (row.unit u value) { stack = after_any u.stack (row.event u p value) };
  registers = row.registers p value;
  event = row.event u p value;
}

-- a register that is reached is used: refused where its select names no entry
abbrev pub used : Row → UnitState → Priv → CsrUse → Option ℕ → AccessResult
used row u p op None = unchanged u p (Err Illegal)
used row u p op (Some old) = put_in row u p old (new_value op old)

abbrev pub passed : UnitState → Priv → CsrUse → Result ℕ CsrFault → AccessResult
passed u p op (Err fault) = unchanged u p (Err fault)
passed u p op (Ok number) = used (row_of number) u p op ((row_of number).reads u p)

abbrev pub access_of : UnitState → Priv → Mode → ℕ → CsrUse → AccessResult
access_of u p mode csr op = passed u p op (gate_answer mode csr (is_write op))

-- the gate lets the access through to a register whose select names no entry
abbrev pub ReachesNoEntry : UnitState → Priv → Result ℕ CsrFault → Type 0
ReachesNoEntry u p (Ok number) = (row_of number).reads u p ≡ None
ReachesNoEntry u p (Err fault) = ⊥
