-- How a step ends: it goes on at an address, returns from a trap, or takes a trap (RISC-V Privileged Architecture,
-- "Environment Call and Breakpoint", "Trap-Return Instructions", "Wait for Interrupt" and "Virtual-Instruction
-- Exception"; Control Transfer Records 1.0, SCTRCLR).
use Rattle.std.specs.Prelude.{◌≡◌, ◌≢◌, ◌⊎◌, ℕ, ◌+◌, ◌*◌, ◌/◌, ◌%◌, ◌<◌, ◌≤◌, Bool, true, false, List, [], ◌∷◌, fold, length, replicate, Option, Some, None, Result, Ok, Err}
use Rattle.ctr_csrs.specs.declared.mode.Mode.{Mode}
use Rattle.ctr_csrs.specs.declared.mode.Mode.TheVariants as modes
use Rattle.ctr_buffer.specs.Entry.{zero_entry}
use Rattle.ctr_buffer.specs.History.{after}
use Rattle.ctr_buffer.specs.Stack.{size_of}
use Rattle.guest_modes.specs.declared.gating.CsrFault.{CsrFault}
use Rattle.guest_modes.specs.declared.gating.CsrFault.TheVariants.{Illegal, Virtual}
use Rattle.guest_modes.specs.declared.returning.Ret.{Ret}
use Rattle.guest_modes.specs.declared.returning.Ret.TheVariants as rets
use Rattle.guest_modes.specs.declared.targets.Trap.{Trap}
use Rattle.guest_modes.specs.declared.targets.Trap.TheVariants.{Exception, Interrupt}
use Rattle.guest_modes.specs.Entry.{after_trap, handler_of}
use Rattle.guest_modes.specs.Interrupts.{next_interrupt}
use Rattle.guest_modes.specs.Returns.{after_return, mode_after, pc_after}
use Rattle.guest_modes.specs.Traps.{target_of}
use Rattle.indirect_regs.specs.Access.{access_of}
use Rattle.indirect_regs.specs.Unit.{UnitState, cleared_unit}
use Rattle.rv_decode.specs.declared.instruction.Instr.{Instr}
use Rattle.rv_decode.specs.declared.operations.Cond.{Cond}
use Rattle.rv_decode.specs.declared.operations.Width.{Width}
use Rattle.rv_alu.specs.Holds.{holds}
use Rattle.rv_decode.specs.declared.instruction.Instr.TheVariants.{Jal, Jalr, Branch, Load, Store, Csr, CtrClr, Ecall, Ebreak, Mret, Sret, Wfi, Fence, FenceI}
use Rattle.rv_decode.specs.Rows.{instruction_of}
use Rattle.rv_hart.specs.declared.outcome.Outcome.{Outcome}
use Rattle.rv_hart.specs.declared.outcome.Outcome.TheVariants.{Goes, Returns, Raises}
use Rattle.rv_hart.specs.Effect.{effect}
use Rattle.rv_hart.specs.Memory.{bytes_of}
use Rattle.rv_hart.specs.Processor.{CoreState, plus, reg}
use Rattle.rv_hart.specs.Step.{MachineState, Step, executed, fetched, lowered, next, raised, use_of}

-- a trap has the value that its trap value register takes
pub data Ending : Type 0 where
  GoesOn : Ending
  Returned : Ret → Ending
  Trapped : Trap → ℕ → Ending

-- by the outcome of an instruction
abbrev pub outcome_ending : Outcome → Ending
outcome_ending (Goes jump pc) = GoesOn
outcome_ending (Returns ret) = Returned ret
outcome_ending (Raises cause value) = Trapped (Exception cause) value

-- a refused access is an illegal or a virtual instruction
abbrev pub access_ending : Result ℕ CsrFault → ℕ → Ending
access_ending (Ok old) word = GoesOn
access_ending (Err Illegal) word = Trapped (Exception 2) word
access_ending (Err Virtual) word = Trapped (Exception 22) word

abbrev pub clear_ending : Mode → ℕ → Ending
clear_ending modes.U word = Trapped (Exception 2) word
clear_ending modes.Vu word = Trapped (Exception 22) word
clear_ending _ word = GoesOn

-- the end of an instruction, whose word is given too
abbrev pub instruction_ending : Instr → ℕ → CoreState → UnitState → List ℕ → Ending
instruction_ending (Csr op rd arg csr) word c u bytes = access_ending (access_of u c.csrs c.mode csr (use_of op arg c)).answer word
instruction_ending CtrClr word c u bytes = clear_ending c.mode word
instruction_ending i word c u bytes = outcome_ending (effect i word c bytes).outcome

-- an unknown word is an illegal instruction, and where there is no word the access to it fails
abbrev pub decoded_ending : Option Instr → ℕ → MachineState → Ending
decoded_ending None word s = Trapped (Exception 2) word
decoded_ending (Some i) word s = instruction_ending i word s.core s.unit s.mem

abbrev pub word_ending : Option ℕ → MachineState → Ending
word_ending None s = Trapped (Exception 1) s.core.pc
word_ending (Some word) s = decoded_ending (instruction_of word) word s

abbrev pub interrupt_ending : Option ℕ → MachineState → Ending
interrupt_ending (Some i) s = Trapped (Interrupt i) 0
interrupt_ending None s = word_ending (fetched s) s

-- the end of a step at which these interrupts become pending
abbrev pub ending : ℕ → MachineState → Ending
ending pending s =
    let now = raised pending s in
    interrupt_ending (next_interrupt now.core.csrs now.core.mode) now

-- an interrupt that is taken is pending no longer
abbrev pub trap_begins : Trap → CoreState → CoreState
trap_begins (Exception cause) c = c
trap_begins (Interrupt i) c = lowered i c

abbrev pub trap_core : Trap → ℕ → CoreState → CoreState
trap_core trap value c = record {
  x = c.x;
  pc = handler_of c.csrs c.mode trap;
  mode = target_of c.csrs c.mode trap;
  csrs = after_trap c.csrs c.mode trap c.pc value;
}

abbrev pub return_core : Ret → CoreState → CoreState
return_core ret c = record { x = c.x; pc = pc_after c.csrs ret; mode = mode_after c.csrs ret; csrs = after_return c.csrs ret }

-- what an end other than going on leaves of a state: memory and registers as they were, the rest by the trap or the return
abbrev pub EndLeaves : Ending → MachineState → MachineState → Type 0
EndLeaves GoesOn before after = Unit {0}
EndLeaves (Returned ret) before after = (after.mem ≡ before.mem) × (after.core ≡ return_core ret before.core)
EndLeaves (Trapped trap value) before after =
    (after.mem ≡ before.mem) × (after.core ≡ trap_core trap value (trap_begins trap before.core))

abbrev pub TrapsAndReturnsWriteNothing : Type 0
TrapsAndReturnsWriteNothing = (pending : ℕ) (s : MachineState) → EndLeaves (ending pending s) (raised pending s) (next pending s)

-- a line of the table of endings: a mode, an instruction, and how it ends by its word
pub record EndingLine : Type 0 where
  pub mode : Mode
  pub instr : Instr
  pub ends : ℕ → Ending

abbrev pub line : Mode → Instr → (ℕ → Ending) → EndingLine
line mode i ends = record { mode = mode; instr = i; ends = ends }

abbrev pub ending_table : List EndingLine
ending_table =
    line modes.M Ecall (λ word. Trapped (Exception 11) 0)
    ∷ line modes.S Ecall (λ word. Trapped (Exception 9) 0)
    ∷ line modes.U Ecall (λ word. Trapped (Exception 8) 0)
    ∷ line modes.Vs Ecall (λ word. Trapped (Exception 10) 0)
    ∷ line modes.Vu Ecall (λ word. Trapped (Exception 8) 0)
    ∷ line modes.M Ebreak (λ word. Trapped (Exception 3) 0)
    ∷ line modes.S Ebreak (λ word. Trapped (Exception 3) 0)
    ∷ line modes.U Ebreak (λ word. Trapped (Exception 3) 0)
    ∷ line modes.Vs Ebreak (λ word. Trapped (Exception 3) 0)
    ∷ line modes.Vu Ebreak (λ word. Trapped (Exception 3) 0)
    ∷ line modes.M Mret (λ word. Returned rets.Mret)
    ∷ line modes.S Mret (λ word. Trapped (Exception 2) word)
    ∷ line modes.U Mret (λ word. Trapped (Exception 2) word)
    ∷ line modes.Vs Mret (λ word. Trapped (Exception 2) word)
    ∷ line modes.Vu Mret (λ word. Trapped (Exception 2) word)
    ∷ line modes.M Sret (λ word. Returned rets.SretHs)
    ∷ line modes.S Sret (λ word. Returned rets.SretHs)
    ∷ line modes.U Sret (λ word. Trapped (Exception 2) word)
    ∷ line modes.Vs Sret (λ word. Returned rets.SretVs)
    ∷ line modes.Vu Sret (λ word. Trapped (Exception 22) word)
    ∷ line modes.M CtrClr (λ word. GoesOn)
    ∷ line modes.S CtrClr (λ word. GoesOn)
    ∷ line modes.U CtrClr (λ word. Trapped (Exception 2) word)
    ∷ line modes.Vs CtrClr (λ word. GoesOn)
    ∷ line modes.Vu CtrClr (λ word. Trapped (Exception 22) word)
    ∷ line modes.M Wfi (λ word. GoesOn)
    ∷ line modes.S Wfi (λ word. GoesOn)
    ∷ line modes.U Wfi (λ word. GoesOn)
    ∷ line modes.Vs Wfi (λ word. GoesOn)
    ∷ line modes.Vu Wfi (λ word. GoesOn)
    ∷ line modes.M Fence (λ word. GoesOn)
    ∷ line modes.S Fence (λ word. GoesOn)
    ∷ line modes.U Fence (λ word. GoesOn)
    ∷ line modes.Vs Fence (λ word. GoesOn)
    ∷ line modes.Vu Fence (λ word. GoesOn)
    ∷ line modes.M FenceI (λ word. GoesOn)
    ∷ line modes.S FenceI (λ word. GoesOn)
    ∷ line modes.U FenceI (λ word. GoesOn)
    ∷ line modes.Vs FenceI (λ word. GoesOn)
    ∷ line modes.Vu FenceI (λ word. GoesOn)
    ∷ []

abbrev pub LinesHold : List EndingLine → ℕ → CoreState → UnitState → List ℕ → Type 0
LinesHold [] word c u bytes = Unit {0}
LinesHold (l ∷ ls) word c u bytes =
    (instruction_ending l.instr word (record c { mode = l.mode }) u bytes ≡ l.ends word) × LinesHold ls word c u bytes

-- each line of the table holds, whatever the hart and the memory hold
abbrev pub EndingsByMode : Type 0
EndingsByMode = (word : ℕ) (c : CoreState) (u : UnitState) (bytes : List ℕ) → LinesHold ending_table word c u bytes

-- the unit after a step, as the state after it has it
abbrev pub unit_after : Step → UnitState → UnitState
unit_after step u = record step.unit { stack = fold after u.stack step.events }

-- SCTRCLR, where the mode may execute it, makes every entry zero; the depth, the pointer, FROZEN, the
-- controls and the select stay. A monitor's clear makes the same of a unit
pub record ClearsEntries (word : ℕ) (c : CoreState) (u : UnitState) (bytes : List ℕ) : Type 0 where
  pub machine : unit_after (executed CtrClr word (record c { mode = modes.M }) u bytes) u ≡ cleared_unit u
  pub supervisor : unit_after (executed CtrClr word (record c { mode = modes.S }) u bytes) u ≡ cleared_unit u
  pub guest : unit_after (executed CtrClr word (record c { mode = modes.Vs }) u bytes) u ≡ cleared_unit u
  pub monitor : cleared_unit u
      ≡ record u { stack = record u.stack { slots = replicate (size_of u.stack) zero_entry } }

abbrev pub SctrclrClearsEntries : Type 0
SctrclrClearsEntries =
    (word : ℕ) (c : CoreState) (u : UnitState) (bytes : List ℕ) → ClearsEntries word c u bytes

-- a load or store of so many bytes at an address: one that isn't a multiple of them is misaligned, also
-- where it lies outside; outside of a memory of this size, from 80000000 on, is an access fault
pub record EndsByAddress (misaligned_cause fault_cause address count size : ℕ) (end : Ending) : Type 0 where
  pub misaligned : address % count ≢ 0 → end ≡ Trapped (Exception misaligned_cause) address
  pub outside : address % count ≡ 0
      → (address < 0x80000000) ⊎ (0x80000000 + size < address + count)
      → end ≡ Trapped (Exception fault_cause) address
  pub inside : address % count ≡ 0 → 0x80000000 ≤ address → address + count ≤ 0x80000000 + size
      → end ≡ GoesOn

-- a jump, or a branch that is taken: its target is a multiple of 4, or it is misaligned
pub record EndsByTarget (target : ℕ) (end : Ending) : Type 0 where
  pub misaligned : target % 4 ≢ 0 → end ≡ Trapped (Exception 0) target
  pub aligned : target % 4 ≡ 0 → end ≡ GoesOn

-- loads, stores, jumps and branches, in every mode
pub record AddressesEnd (word : ℕ) (c : CoreState) (u : UnitState) (bytes : List ℕ) : Type 0 where
  pub loads : (width : Width) (signed : Bool) (rd rs1 off : ℕ) →
      EndsByAddress 4 5 (plus (reg c rs1) off) (bytes_of width) (length bytes)
      (instruction_ending (Load width signed rd rs1 off) word c u bytes)
  pub stores : (width : Width) (rs1 rs2 off : ℕ) →
      EndsByAddress 6 7 (plus (reg c rs1) off) (bytes_of width) (length bytes)
      (instruction_ending (Store width rs1 rs2 off) word c u bytes)
  pub jumps : (rd off : ℕ) →
      EndsByTarget (plus c.pc off) (instruction_ending (Jal rd off) word c u bytes)
  pub indirect_jumps : (rd rs1 off : ℕ) →
      EndsByTarget (plus (reg c rs1) off / 2 * 2) (instruction_ending (Jalr rd rs1 off) word c u bytes)
  pub branches_taken : (condition : Cond) (rs1 rs2 off : ℕ) →
      holds condition (reg c rs1) (reg c rs2) ≡ true
      → EndsByTarget (plus c.pc off) (instruction_ending (Branch condition rs1 rs2 off) word c u bytes)
  pub branches_not_taken : (condition : Cond) (rs1 rs2 off : ℕ) →
      holds condition (reg c rs1) (reg c rs2) ≡ false
      → instruction_ending (Branch condition rs1 rs2 off) word c u bytes ≡ GoesOn

abbrev pub EndingsByAddress : Type 0
EndingsByAddress =
    (word : ℕ) (c : CoreState) (u : UnitState) (bytes : List ℕ) → AddressesEnd word c u bytes
