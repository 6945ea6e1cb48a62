-- The record of a trap, by cases of the step that takes it.
use Rattle.std.proofs.Common.{◌≡◌, refl, ◌∙◌, ℕ, List, Option, Some, None, Result, Ok, Err}
use Rattle.ctr_csrs.specs.declared.mode.Mode.{Mode}
use Rattle.ctr_csrs.specs.declared.mode.Mode.TheVariants as modes
use Rattle.ctr_buffer.specs.Entry.{Entry, recorded_entry}
use Rattle.guest_modes.specs.declared.gating.CsrFault.{CsrFault}
use Rattle.guest_modes.specs.declared.gating.CsrFault.TheVariants.{Illegal, Virtual}
use Rattle.guest_modes.specs.declared.targets.Trap.{Trap}
use Rattle.guest_modes.specs.declared.targets.Trap.TheVariants.{Exception, Interrupt}
use Rattle.guest_modes.specs.Interrupts.{next_interrupt}
use Rattle.indirect_regs.specs.Access.{AccessResult, access_of}
use Rattle.indirect_regs.specs.Unit.{UnitState}
use Rattle.rv_decode.specs.declared.instruction.Instr.{Instr}
use Rattle.rv_decode.specs.declared.instruction.Instr.TheVariants.{Lui, Auipc, Jal, Jalr, Branch, Load, Store, AluImm, Alu, Csr, Fence, FenceI, Ecall, Ebreak, Mret, Sret, Wfi, CtrClr}
use Rattle.rv_decode.specs.Rows.{instruction_of}
use Rattle.xfer_class.specs.Types.{code_of}
use Rattle.rv_hart.specs.Effect.{Effect, effect}
use Rattle.rv_hart.specs.Ending.{Ending, GoesOn, Returned, Trapped, access_ending, clear_ending, decoded_ending, instruction_ending, interrupt_ending, outcome_ending, word_ending}
use Rattle.rv_hart.specs.Executed.{EndRecords, HasEntry, IsRecordOfTrap, TrapsRecordThemselves, trap_type}
use Rattle.rv_hart.specs.Processor.{CoreState}
use Rattle.rv_hart.specs.Step.{MachineState, Step, answered, by_effect, by_instruction, by_interrupt, by_word, clears, executed, fetched, lowered, raised, trap_transfer, trapped, type_of_trap, use_of}
use Rattle.rv_hart.proofs.RecordLemmas.{IsEntryOf, carried_entry}
use Rattle.rv_hart.proofs.StepLemmas.{Shapes, of_effect}

-- the law of one step
abbrev pub StepRecords : Ending → ℕ → Step → Type 0
StepRecords end pc step = EndRecords end pc step.core.pc step.events

pub of_trap : (trap : Trap) (c : CoreState) (e : Entry) → IsEntryOf (trap_transfer trap c) e
    → IsRecordOfTrap trap c.pc (trap_transfer trap c).target e
of_trap (Exception cause) c e x =
    record { from = x.from; to = x.to; source = x.source; target = x.target; entry = x.entry }
of_trap (Interrupt i) c e x =
    record { from = x.from; to = x.to; source = x.source; target = x.target; entry = x.entry }

pub trapped_records : (trap : Trap) (value : ℕ) (c : CoreState) (u : UnitState)
    → StepRecords (Trapped trap value) c.pc (trapped trap value c u)
trapped_records trap value c u = λ e h. of_trap trap c e (carried_entry (trap_transfer trap c) u e h)

pub effect_records : (i : Instr) (word : ℕ) (c : CoreState) (u : UnitState) (bytes : List ℕ)
    → StepRecords (outcome_ending (effect i word c bytes).outcome) c.pc (by_effect (effect i word c bytes) u)
effect_records i word c u bytes =
    of_effect (λ (e : Effect). StepRecords (outcome_ending e.outcome) c.pc (by_effect e u)) c bytes
    (record {
      writes = λ rd value kind pc. tt;
      goes = λ kind pc. tt;
      stores = λ width value at pc within. tt;
      returns = λ ret. tt;
      raises = λ cause value. trapped_records (Exception cause) value c u;
    }) i word

pub answer_records : (answer : Result ℕ CsrFault) (a : AccessResult) (rd word : ℕ) (c : CoreState) (u : UnitState)
    → StepRecords (access_ending answer word) c.pc (answered answer a rd word c u)
answer_records (Ok old) a rd word c u = tt
answer_records (Err Illegal) a rd word c u = trapped_records (Exception 2) word c u
answer_records (Err Virtual) a rd word c u = trapped_records (Exception 22) word c u

pub clear_records : (mode : Mode) (word : ℕ) (c : CoreState) (u : UnitState)
    → StepRecords (clear_ending mode word) c.pc (clears mode word c u)
clear_records modes.M word c u = tt
clear_records modes.S word c u = tt
clear_records modes.U word c u = trapped_records (Exception 2) word c u
clear_records modes.Vs word c u = tt
clear_records modes.Vu word c u = trapped_records (Exception 22) word c u

pub instruction_records : (i : Instr) (word : ℕ) (c : CoreState) (u : UnitState) (bytes : List ℕ)
    → StepRecords (instruction_ending i word c u bytes) c.pc (executed i word c u bytes)
instruction_records (Csr op rd arg csr) word c u bytes =
    let a = access_of u c.csrs c.mode csr (use_of op arg c) in
    answer_records a.answer a rd word c u
instruction_records CtrClr word c u bytes = clear_records c.mode word c u
instruction_records (Lui rd imm) word c u bytes = effect_records (Lui rd imm) word c u bytes
instruction_records (Auipc rd imm) word c u bytes = effect_records (Auipc rd imm) word c u bytes
instruction_records (Jal rd off) word c u bytes = effect_records (Jal rd off) word c u bytes
instruction_records (Jalr rd rs1 off) word c u bytes = effect_records (Jalr rd rs1 off) word c u bytes
instruction_records (Branch condition rs1 rs2 off) word c u bytes = effect_records (Branch condition rs1 rs2 off) word c u bytes
instruction_records (Load width signed rd rs1 off) word c u bytes = effect_records (Load width signed rd rs1 off) word c u bytes
instruction_records (Store width rs1 rs2 off) word c u bytes = effect_records (Store width rs1 rs2 off) word c u bytes
instruction_records (AluImm op rd rs1 imm) word c u bytes = effect_records (AluImm op rd rs1 imm) word c u bytes
instruction_records (Alu op rd rs1 rs2) word c u bytes = effect_records (Alu op rd rs1 rs2) word c u bytes
instruction_records Fence word c u bytes = effect_records Fence word c u bytes
instruction_records FenceI word c u bytes = effect_records FenceI word c u bytes
instruction_records Ecall word c u bytes = effect_records Ecall word c u bytes
instruction_records Ebreak word c u bytes = effect_records Ebreak word c u bytes
instruction_records Mret word c u bytes = effect_records Mret word c u bytes
instruction_records Sret word c u bytes = effect_records Sret word c u bytes
instruction_records Wfi word c u bytes = effect_records Wfi word c u bytes

pub decoded_records : (o : Option Instr) (word : ℕ) (s : MachineState)
    → StepRecords (decoded_ending o word s) s.core.pc (by_instruction o word s).step
decoded_records None word s = trapped_records (Exception 2) word s.core s.unit
decoded_records (Some i) word s = instruction_records i word s.core s.unit s.mem

pub word_records : (w : Option ℕ) (s : MachineState)
    → StepRecords (word_ending w s) s.core.pc (by_word w s).step
word_records None s = trapped_records (Exception 1) s.core.pc s.core s.unit
word_records (Some word) s = decoded_records (instruction_of word) word s

pub interrupt_records : (p : Option ℕ) (s : MachineState)
    → StepRecords (interrupt_ending p s) s.core.pc (by_interrupt p s).step
interrupt_records (Some i) s = trapped_records (Interrupt i) 0 (lowered i s.core) s.unit
interrupt_records None s = word_records (fetched s) s

pub traps_record_themselves : TrapsRecordThemselves
traps_record_themselves pending s =
    let now = raised pending s in
    interrupt_records (next_interrupt now.core.csrs now.core.mode) now
