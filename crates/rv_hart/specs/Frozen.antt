-- When FROZEN changes (Control Transfer Records 1.0, "Freeze", register sctrstatus and fields BPFRZ and
-- LCOFIFRZ of the control registers).
use Rattle.std.specs.Prelude.{◌≡◌, ◌⊎◌, ℕ, Bool, true, Option, Some, None, Ok}
use Rattle.ctr_bits.specs.Field.{field_of}
use Rattle.ctr_csrs.specs.declared.mode.Mode.{Mode}
use Rattle.ctr_csrs.specs.declared.mode.Mode.TheVariants as modes
use Rattle.guest_modes.specs.declared.targets.Trap.{Trap}
use Rattle.guest_modes.specs.declared.targets.Trap.TheVariants.{Exception, Interrupt}
use Rattle.guest_modes.specs.Gate.{gate_answer}
use Rattle.indirect_regs.specs.Access.{is_write}
use Rattle.indirect_regs.specs.Unit.{UnitState}
use Rattle.rv_decode.specs.declared.instruction.Instr.{Instr}
use Rattle.rv_decode.specs.declared.instruction.Instr.TheVariants.{Csr}
use Rattle.rv_hart.specs.Ending.{Ending, GoesOn, Returned, Trapped, ending}
use Rattle.rv_hart.specs.Executed.{instruction_at}
use Rattle.rv_hart.specs.Processor.{CoreState}
use Rattle.rv_hart.specs.Step.{MachineState, next, raised, use_of}

-- the control register of a mode that takes traps
abbrev pub control_of : Mode → UnitState → ℕ
control_of modes.M u = u.m
control_of modes.S u = u.m
control_of modes.Vs u = u.vs
control_of modes.U u = 0
control_of modes.Vu u = 0

-- a breakpoint exception, 3, freezes where the control register of the mode that takes it has BPFRZ,
-- bit 11; the interrupt of a counter overflow, 13, where it has LCOFIFRZ, bit 12; no other trap does
abbrev pub IsFreeze : Trap → ℕ → Type 0
IsFreeze (Exception cause) control = (cause ≡ 3) × (field_of 11 1 control ≡ 1)
IsFreeze (Interrupt i) control = (i ≡ 13) × (field_of 12 1 control ≡ 1)

-- the instruction writes sctrstatus, 14F
abbrev pub WritesStatus : Option Instr → CoreState → Type 0
WritesStatus (Some (Csr op rd arg csr)) c =
    (gate_answer c.mode csr (is_write (use_of op arg c)) ≡ Ok 0x14F)
    × (is_write (use_of op arg c) ≡ true)
WritesStatus _ c = ⊥

-- what makes FROZEN another: a trap that freezes, by the mode that takes it, or a write of sctrstatus
abbrev pub ChangesFrozen : Ending → Option Instr → CoreState → UnitState → Mode → Bool → Type 0
ChangesFrozen GoesOn i c u to frozen = WritesStatus i c
ChangesFrozen (Returned ret) i c u to frozen = ⊥
ChangesFrozen (Trapped trap value) i c u to frozen =
    (frozen ≡ true) × IsFreeze trap (control_of to u)

-- FROZEN is as it was, or the step made it another
abbrev pub FrozenChanges : Type 0
FrozenChanges = (pending : ℕ) (s : MachineState) →
    ((next pending s).unit.frozen ≡ s.unit.frozen)
    ⊎ ChangesFrozen (ending pending s) (instruction_at pending s) (raised pending s).core s.unit
    (next pending s).core.mode (next pending s).unit.frozen

-- a trap that freezes sets it
abbrev pub SetsFrozen : Ending → UnitState → Mode → Bool → Type 0
SetsFrozen (Trapped trap value) u to frozen = IsFreeze trap (control_of to u) → frozen ≡ true
SetsFrozen _ u to frozen = Unit {0}

abbrev pub FreezesSetFrozen : Type 0
FreezesSetFrozen = (pending : ℕ) (s : MachineState) →
    SetsFrozen (ending pending s) s.unit (next pending s).core.mode (next pending s).unit.frozen
