-- Where a step goes, by cases of its instruction.
use Rattle.std.proofs.Common.{◌≡◌, refl, ap, sym, subst, ◌∙◌, ℕ, ◌*◌, ◌/◌, ◌%◌, Bool, true, false, cond, nat_eq, List, Option, Some, None, Result, Ok, Err}
use Rattle.ctr_csrs.specs.declared.mode.Mode.{Mode}
use Rattle.ctr_csrs.specs.declared.mode.Mode.TheVariants as modes
use Rattle.guest_modes.specs.declared.gating.CsrFault.{CsrFault}
use Rattle.guest_modes.specs.declared.gating.CsrFault.TheVariants.{Illegal, Virtual}
use Rattle.guest_modes.specs.Interrupts.{next_interrupt}
use Rattle.indirect_regs.specs.Access.{AccessResult, access_of}
use Rattle.indirect_regs.specs.Unit.{UnitState}
use Rattle.rv_alu.specs.Holds.{holds}
use Rattle.rv_decode.specs.declared.instruction.Instr.{Instr}
use Rattle.rv_decode.specs.declared.instruction.Instr.TheVariants.{Lui, Auipc, Jal, Jalr, Branch, Load, Store, AluImm, Alu, Csr, Fence, FenceI, Ecall, Ebreak, Mret, Sret, Wfi, CtrClr}
use Rattle.rv_decode.specs.declared.operations.Width.{Width}
use Rattle.rv_decode.specs.Rows.{instruction_of}
use Rattle.rv_hart.specs.declared.outcome.Jump.{Jump}
use Rattle.rv_hart.specs.Effect.{branches, goes_to, jump_of, jumps, loads, loads_at, machine_return, raises, stores, stores_at, supervisor_return}
use Rattle.rv_hart.specs.Ending.{access_ending, clear_ending, decoded_ending, instruction_ending, interrupt_ending, outcome_ending, word_ending}
use Rattle.rv_hart.specs.Executed.{StepsGoToTheirDestinations, TakesNoTrap, decoded_at, destination, instruction_by, is_taken, supervisor_return_place}
use Rattle.rv_hart.specs.Memory.{bytes_of, place_of}
use Rattle.rv_hart.specs.Processor.{CoreState, plus, put, reg}
use Rattle.rv_hart.specs.Step.{MachineState, answered, by_effect, by_instruction, by_interrupt, by_word, clears, concluded, executed, fetched, raised, use_of, went}
use Rattle.rv_hart.proofs.RecordLemmas.{some_or}

pub went_there : (jump : Option Jump) (target : ℕ) (c : CoreState) (u : UnitState)
    → (went jump target c u).core.pc ≡ target
went_there None target c u = refl
went_there (Some jump) target c u = refl

pub jump_goes : (b : Bool) (jump : Option Jump) (target : ℕ) (c d : CoreState) (u : UnitState) (bytes : List ℕ)
    → TakesNoTrap (outcome_ending (cond b (goes_to jump target d bytes) (raises 0 target c bytes)).outcome)
    → (by_effect (cond b (goes_to jump target d bytes) (raises 0 target c bytes)) u).core.pc ≡ target
jump_goes true jump target c d u bytes calm = went_there jump target d u
jump_goes false jump target c d u bytes calm = absurd calm

pub branch_goes : (way : Bool) (jump : Option Jump) (target : ℕ) (c : CoreState) (u : UnitState) (bytes : List ℕ)
    → TakesNoTrap (outcome_ending (branches way jump target c bytes).outcome)
    → (by_effect (branches way jump target c bytes) u).core.pc ≡ cond way target (plus c.pc 4)
branch_goes true jump target c u bytes calm = jump_goes (nat_eq (target % 4) 0) jump target c c u bytes calm
branch_goes false jump target c u bytes calm = went_there jump (plus c.pc 4) c u

pub load_goes : (place : Option ℕ) (width : Width) (signed : Bool) (rd address : ℕ) (c : CoreState) (u : UnitState) (bytes : List ℕ)
    → TakesNoTrap (outcome_ending (loads_at place width signed rd address c bytes).outcome)
    → (by_effect (loads_at place width signed rd address c bytes) u).core.pc ≡ plus c.pc 4
load_goes (Some at) width signed rd address c u bytes calm = refl
load_goes None width signed rd address c u bytes calm = absurd calm

pub aligned_load_goes : (b : Bool) (place : Option ℕ) (width : Width) (signed : Bool) (rd address : ℕ) (c : CoreState) (u : UnitState) (bytes : List ℕ)
    → TakesNoTrap (outcome_ending (cond b (loads_at place width signed rd address c bytes) (raises 4 address c bytes)).outcome)
    → (by_effect (cond b (loads_at place width signed rd address c bytes) (raises 4 address c bytes)) u).core.pc ≡ plus c.pc 4
aligned_load_goes true place width signed rd address c u bytes calm = load_goes place width signed rd address c u bytes calm
aligned_load_goes false place width signed rd address c u bytes calm = absurd calm

pub store_goes : (place : Option ℕ) (width : Width) (value address : ℕ) (c : CoreState) (u : UnitState) (bytes : List ℕ)
    → TakesNoTrap (outcome_ending (stores_at place width value address c bytes).outcome)
    → (by_effect (stores_at place width value address c bytes) u).core.pc ≡ plus c.pc 4
store_goes (Some at) width value address c u bytes calm = refl
store_goes None width value address c u bytes calm = absurd calm

pub aligned_store_goes : (b : Bool) (place : Option ℕ) (width : Width) (value address : ℕ) (c : CoreState) (u : UnitState) (bytes : List ℕ)
    → TakesNoTrap (outcome_ending (cond b (stores_at place width value address c bytes) (raises 6 address c bytes)).outcome)
    → (by_effect (cond b (stores_at place width value address c bytes) (raises 6 address c bytes)) u).core.pc ≡ plus c.pc 4
aligned_store_goes true place width value address c u bytes calm = store_goes place width value address c u bytes calm
aligned_store_goes false place width value address c u bytes calm = absurd calm

pub mret_goes : (m : Mode) (word : ℕ) (c : CoreState) (u : UnitState) → TakesNoTrap (outcome_ending (machine_return m word))
    → (concluded (machine_return m word) c u).core.pc ≡ c.csrs.mepc
mret_goes modes.M word c u calm = refl
mret_goes modes.S word c u calm = absurd calm
mret_goes modes.U word c u calm = absurd calm
mret_goes modes.Vs word c u calm = absurd calm
mret_goes modes.Vu word c u calm = absurd calm

pub sret_goes : (m : Mode) (word : ℕ) (c : CoreState) (u : UnitState) → TakesNoTrap (outcome_ending (supervisor_return m word))
    → (concluded (supervisor_return m word) c u).core.pc ≡ supervisor_return_place m c
sret_goes modes.M word c u calm = refl
sret_goes modes.S word c u calm = refl
sret_goes modes.U word c u calm = absurd calm
sret_goes modes.Vs word c u calm = refl
sret_goes modes.Vu word c u calm = absurd calm

pub answer_goes : (answer : Result ℕ CsrFault) (a : AccessResult) (rd word : ℕ) (c : CoreState) (u : UnitState)
    → TakesNoTrap (access_ending answer word) → (answered answer a rd word c u).core.pc ≡ plus c.pc 4
answer_goes (Ok old) a rd word c u calm = refl
answer_goes (Err Illegal) a rd word c u calm = absurd calm
answer_goes (Err Virtual) a rd word c u calm = absurd calm

pub clear_goes : (mode : Mode) (word : ℕ) (c : CoreState) (u : UnitState) → TakesNoTrap (clear_ending mode word)
    → (clears mode word c u).core.pc ≡ plus c.pc 4
clear_goes modes.M word c u calm = refl
clear_goes modes.S word c u calm = refl
clear_goes modes.U word c u calm = absurd calm
clear_goes modes.Vs word c u calm = refl
clear_goes modes.Vu word c u calm = absurd calm

pub instruction_goes : (i : Instr) (word : ℕ) (c : CoreState) (u : UnitState) (bytes : List ℕ)
    → TakesNoTrap (instruction_ending i word c u bytes)
    → (executed i word c u bytes).core.pc ≡ destination i (is_taken c.x i) c
instruction_goes (Jal rd off) word c u bytes calm =
    let target = plus c.pc off in
    jump_goes (nat_eq (target % 4) 0) (jump_of (Jal rd off) false) target c (put c rd (plus c.pc 4)) u bytes calm
instruction_goes (Jalr rd rs1 off) word c u bytes calm =
    let target = plus (reg c rs1) off / 2 * 2 in
    jump_goes (nat_eq (target % 4) 0) (jump_of (Jalr rd rs1 off) false) target c (put c rd (plus c.pc 4)) u bytes calm
instruction_goes (Branch condition rs1 rs2 off) word c u bytes calm =
    let taken = holds condition (reg c rs1) (reg c rs2) in
    branch_goes taken (jump_of (Branch condition rs1 rs2 off) taken) (plus c.pc off) c u bytes calm
instruction_goes (Load width signed rd rs1 off) word c u bytes calm =
    let address = plus (reg c rs1) off in
    aligned_load_goes (nat_eq (address % bytes_of width) 0) (place_of _ address (bytes_of width)) width signed rd address c u bytes calm
instruction_goes (Store width rs1 rs2 off) word c u bytes calm =
    let address = plus (reg c rs1) off in
    aligned_store_goes (nat_eq (address % bytes_of width) 0) (place_of _ address (bytes_of width)) width (reg c rs2) address c u bytes calm
instruction_goes Mret word c u bytes calm = mret_goes c.mode word c u calm
instruction_goes Sret word c u bytes calm = sret_goes c.mode word c u calm
instruction_goes (Csr op rd arg csr) word c u bytes calm =
    let a = access_of u c.csrs c.mode csr (use_of op arg c) in
    answer_goes a.answer a rd word c u calm
instruction_goes CtrClr word c u bytes calm = clear_goes c.mode word c u calm
instruction_goes (Lui rd imm) word c u bytes calm = refl
instruction_goes (Auipc rd imm) word c u bytes calm = refl
instruction_goes (AluImm op rd rs1 imm) word c u bytes calm = refl
instruction_goes (Alu op rd rs1 rs2) word c u bytes calm = refl
instruction_goes Fence word c u bytes calm = refl
instruction_goes FenceI word c u bytes calm = refl
instruction_goes Ecall word c u bytes calm = absurd calm
instruction_goes Ebreak word c u bytes calm = absurd calm
instruction_goes Wfi word c u bytes calm = refl

pub decoded_goes : (o : Option Instr) (word : ℕ) (s : MachineState) (i : Instr) → o ≡ Some i
    → TakesNoTrap (decoded_ending o word s)
    → (by_instruction o word s).step.core.pc ≡ destination i (is_taken s.core.x i) s.core
decoded_goes None word s i is calm = absurd (cc is)
decoded_goes (Some k) word s i is calm =
    let same : k ≡ i = ap (some_or k) is in
    let after = (by_instruction (Some k) word s).step.core.pc in
    subst (λ (x : Instr). after ≡ destination x (is_taken s.core.x x) s.core) same
    (instruction_goes k word s.core s.unit s.mem calm)

pub word_goes : (w : Option ℕ) (s : MachineState) (i : Instr) → decoded_at w ≡ Some i
    → TakesNoTrap (word_ending w s)
    → (by_word w s).step.core.pc ≡ destination i (is_taken s.core.x i) s.core
word_goes None s i is calm = absurd (cc is)
word_goes (Some word) s i is calm = decoded_goes (instruction_of word) word s i is calm

pub interrupt_goes : (p : Option ℕ) (s : MachineState) (i : Instr) → instruction_by p s ≡ Some i
    → TakesNoTrap (interrupt_ending p s)
    → (by_interrupt p s).step.core.pc ≡ destination i (is_taken s.core.x i) s.core
interrupt_goes (Some cause) s i is calm = absurd (cc is)
interrupt_goes None s i is calm = word_goes (fetched s) s i is calm

-- an interrupt that becomes pending changes nothing of a destination
pub raised_destination : (i : Instr) (taken : Bool) (pending : ℕ) (s : MachineState)
    → destination i taken (raised pending s).core ≡ destination i taken s.core
raised_destination (Lui rd imm) taken pending s = refl
raised_destination (Auipc rd imm) taken pending s = refl
raised_destination (Jal rd off) taken pending s = refl
raised_destination (Jalr rd rs1 off) taken pending s = refl
raised_destination (Branch condition rs1 rs2 off) taken pending s = refl
raised_destination (Load width signed rd rs1 off) taken pending s = refl
raised_destination (Store width rs1 rs2 off) taken pending s = refl
raised_destination (AluImm op rd rs1 imm) taken pending s = refl
raised_destination (Alu op rd rs1 rs2) taken pending s = refl
raised_destination (Csr op rd arg csr) taken pending s = refl
raised_destination Fence taken pending s = refl
raised_destination FenceI taken pending s = refl
raised_destination Ecall taken pending s = refl
raised_destination Ebreak taken pending s = refl
raised_destination Mret taken pending s = refl
raised_destination Sret taken pending s = by_mode s.core.mode
  where
    by_mode : (m : Mode) → supervisor_return_place m (raised pending s).core ≡ supervisor_return_place m s.core
    by_mode modes.M = refl
    by_mode modes.S = refl
    by_mode modes.U = refl
    by_mode modes.Vs = refl
    by_mode modes.Vu = refl
raised_destination Wfi taken pending s = refl
raised_destination CtrClr taken pending s = refl

pub steps_go_to_their_destinations : StepsGoToTheirDestinations
steps_go_to_their_destinations pending s i is calm =
    let now = raised pending s in
    interrupt_goes (next_interrupt now.core.csrs now.core.mode) now i is calm
    ∙ raised_destination i (is_taken s.core.x i) pending s
