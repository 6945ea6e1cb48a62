-- What a step that takes a trap or returns leaves, by cases of the step.
use Rattle.std.proofs.Common.{◌≡◌, ◌⊎◌, inl, inr, refl, ap, ◌∙◌, ℕ, ◌+◌, ◌-◌, ◌*◌, ◌/◌, ◌%◌, ◌<◌, ◌≤◌, Bool, true, false, ◌&&◌, cond, nat_eq, nat_le, List, length, Option, Some, None, Result, Ok, Err}
use Rattle.std.proofs.lemmas.Bool.{and_from, and_left, and_right, cond-false, cond-true, eq-eqb, le-leb, lt-leb, ne_eqb}
use Rattle.ctr_csrs.specs.declared.mode.Mode.{Mode}
use Rattle.ctr_csrs.specs.declared.mode.Mode.TheVariants as modes
use Rattle.guest_modes.specs.declared.gating.CsrFault.{CsrFault}
use Rattle.guest_modes.specs.declared.gating.CsrFault.TheVariants.{Illegal, Virtual}
use Rattle.guest_modes.specs.Interrupts.{next_interrupt}
use Rattle.guest_modes.specs.declared.targets.Trap.TheVariants.{Exception}
use Rattle.indirect_regs.specs.Access.{AccessResult, access_of}
use Rattle.indirect_regs.specs.Unit.{UnitState}
use Rattle.rv_decode.specs.declared.instruction.Instr.{Instr}
use Rattle.rv_decode.specs.declared.instruction.Instr.TheVariants.{Lui, Auipc, Jal, Jalr, Branch, Load, Store, AluImm, Alu, Csr, Fence, FenceI, Ecall, Ebreak, Mret, Sret, Wfi, CtrClr}
use Rattle.rv_alu.specs.Holds.{holds}
use Rattle.rv_decode.specs.declared.operations.Width.{Width}
use Rattle.rv_decode.specs.Rows.{instruction_of}
use Rattle.rv_hart.specs.declared.outcome.Outcome.{Outcome}
use Rattle.rv_hart.specs.declared.outcome.Outcome.TheVariants.{Goes, Returns, Raises}
use Rattle.rv_hart.specs.declared.outcome.Jump.{Jump}
use Rattle.rv_hart.specs.Effect.{Effect, branches, effect, even, goes_to, jump_of, loads, loads_at, raises, stores, stores_at}
use Rattle.rv_hart.specs.Ending.{Ending, EndingsByMode, SctrclrClearsEntries, EndingsByAddress, EndsByAddress, EndsByTarget, TrapsAndReturnsWriteNothing, EndLeaves, GoesOn, Returned, Trapped, access_ending, clear_ending, decoded_ending, instruction_ending, interrupt_ending, outcome_ending, return_core, trap_begins, trap_core, word_ending}
use Rattle.rv_hart.specs.Memory.{base, bytes_of, place_of}
use Rattle.rv_hart.specs.Processor.{CoreState, plus, put, reg}
use Rattle.rv_hart.specs.Step.{MachineState, answered, by_effect, by_instruction, by_interrupt, by_word, clears, concluded, executed, fetched, next, raised, use_of}
use Rattle.rv_hart.specs.StepLaws.{Leaves}
use Rattle.rv_hart.proofs.StepLemmas.{exceptions_write_nothing}

-- the same of a core and a memory, and of those after the step
abbrev pub Leave : Ending → CoreState → List ℕ → CoreState → List ℕ → Type 0
Leave GoesOn c bytes core after = Unit {0}
Leave (Returned ret) c bytes core after = (after ≡ bytes) × (core ≡ return_core ret c)
Leave (Trapped trap value) c bytes core after = (after ≡ bytes) × (core ≡ trap_core trap value (trap_begins trap c))

pub outcome_leaves : (o : Outcome) (core : CoreState) (after : List ℕ) (c : CoreState) (u : UnitState) (bytes : List ℕ)
    → Leaves o (record { core = core; bytes = after; outcome = o }) c bytes
    → Leave (outcome_ending o) c bytes (concluded o core u).core after
outcome_leaves (Goes jump pc) core after c u bytes h = tt
outcome_leaves (Returns ret) core after c u bytes h = (h.1, ap (return_core ret) h.0)
outcome_leaves (Raises cause value) core after c u bytes h = (h.1, ap (trap_core (Exception cause) value) h.0)

pub effect_leaves : (i : Instr) (word : ℕ) (c : CoreState) (u : UnitState) (bytes : List ℕ)
    → Leave (outcome_ending (effect i word c bytes).outcome) c bytes (by_effect (effect i word c bytes) u).core (effect i word c bytes).bytes
effect_leaves i word c u bytes =
    let e = effect i word c bytes in
    outcome_leaves e.outcome e.core e.bytes c u bytes (exceptions_write_nothing i word c bytes)

pub answer_leaves : (answer : Result ℕ CsrFault) (a : AccessResult) (rd word : ℕ) (c : CoreState) (u : UnitState) (bytes : List ℕ)
    → Leave (access_ending answer word) c bytes (answered answer a rd word c u).core bytes
answer_leaves (Ok old) a rd word c u bytes = tt
answer_leaves (Err Illegal) a rd word c u bytes = (refl, refl)
answer_leaves (Err Virtual) a rd word c u bytes = (refl, refl)

pub clear_leaves : (mode : Mode) (word : ℕ) (c : CoreState) (u : UnitState) (bytes : List ℕ)
    → Leave (clear_ending mode word) c bytes (clears mode word c u).core bytes
clear_leaves modes.M word c u bytes = tt
clear_leaves modes.S word c u bytes = tt
clear_leaves modes.U word c u bytes = (refl, refl)
clear_leaves modes.Vs word c u bytes = tt
clear_leaves modes.Vu word c u bytes = (refl, refl)

pub instruction_leaves : (i : Instr) (word : ℕ) (c : CoreState) (u : UnitState) (bytes : List ℕ)
    → Leave (instruction_ending i word c u bytes) c bytes (executed i word c u bytes).core (effect i word c bytes).bytes
instruction_leaves (Csr op rd arg csr) word c u bytes =
    let a = access_of u c.csrs c.mode csr (use_of op arg c) in
    answer_leaves a.answer a rd word c u bytes
instruction_leaves CtrClr word c u bytes = clear_leaves c.mode word c u bytes
instruction_leaves (Lui rd imm) word c u bytes = effect_leaves (Lui rd imm) word c u bytes
instruction_leaves (Auipc rd imm) word c u bytes = effect_leaves (Auipc rd imm) word c u bytes
instruction_leaves (Jal rd off) word c u bytes = effect_leaves (Jal rd off) word c u bytes
instruction_leaves (Jalr rd rs1 off) word c u bytes = effect_leaves (Jalr rd rs1 off) word c u bytes
instruction_leaves (Branch condition rs1 rs2 off) word c u bytes = effect_leaves (Branch condition rs1 rs2 off) word c u bytes
instruction_leaves (Load width signed rd rs1 off) word c u bytes = effect_leaves (Load width signed rd rs1 off) word c u bytes
instruction_leaves (Store width rs1 rs2 off) word c u bytes = effect_leaves (Store width rs1 rs2 off) word c u bytes
instruction_leaves (AluImm op rd rs1 imm) word c u bytes = effect_leaves (AluImm op rd rs1 imm) word c u bytes
instruction_leaves (Alu op rd rs1 rs2) word c u bytes = effect_leaves (Alu op rd rs1 rs2) word c u bytes
instruction_leaves Fence word c u bytes = effect_leaves Fence word c u bytes
instruction_leaves FenceI word c u bytes = effect_leaves FenceI word c u bytes
instruction_leaves Ecall word c u bytes = effect_leaves Ecall word c u bytes
instruction_leaves Ebreak word c u bytes = effect_leaves Ebreak word c u bytes
instruction_leaves Mret word c u bytes = effect_leaves Mret word c u bytes
instruction_leaves Sret word c u bytes = effect_leaves Sret word c u bytes
instruction_leaves Wfi word c u bytes = effect_leaves Wfi word c u bytes

pub decoded_leaves : (i : Option Instr) (word : ℕ) (s : MachineState)
    → Leave (decoded_ending i word s) s.core s.mem (by_instruction i word s).step.core (by_instruction i word s).mem
decoded_leaves None word s = (refl, refl)
decoded_leaves (Some i) word s = instruction_leaves i word s.core s.unit s.mem

pub word_leaves : (w : Option ℕ) (s : MachineState) → Leave (word_ending w s) s.core s.mem (by_word w s).step.core (by_word w s).mem
word_leaves None s = (refl, refl)
word_leaves (Some word) s = decoded_leaves (instruction_of word) word s

pub interrupt_leaves : (i : Option ℕ) (s : MachineState)
    → Leave (interrupt_ending i s) s.core s.mem (by_interrupt i s).step.core (by_interrupt i s).mem
interrupt_leaves (Some i) s = (refl, refl)
interrupt_leaves None s = word_leaves (fetched s) s

-- the same of whole states
pub of_states : (e : Ending) (before after : MachineState) → Leave e before.core before.mem after.core after.mem → EndLeaves e before after
of_states GoesOn before after h = tt
of_states (Returned ret) before after h = h
of_states (Trapped trap value) before after h = h

pub traps_and_returns_write_nothing : TrapsAndReturnsWriteNothing
traps_and_returns_write_nothing pending s =
    let now = raised pending s in
    let i = next_interrupt now.core.csrs now.core.mode in
    of_states (interrupt_ending i now) now (next pending s) (interrupt_leaves i now)

pub endings_by_mode : EndingsByMode
endings_by_mode word c u bytes = (refl, (refl, (refl, (refl, (refl, (refl, (refl, (refl, (refl, (refl, (refl, (refl, (refl, (refl, (refl, (refl, (refl, (refl, (refl, (refl, (refl, (refl, (refl, (refl, (refl, (refl, (refl, (refl, (refl, (refl, (refl, (refl, (refl, (refl, (refl, (refl, (refl, (refl, (refl, (refl, tt))))))))))))))))))))))))))))))))))))))))

pub sctrclr_clears_entries : SctrclrClearsEntries
sctrclr_clears_entries word c u bytes =
    record { machine = refl; supervisor = refl; guest = refl; monitor = refl }

-- loads and stores by their addresses
pub place_there : (size address count : ℕ) → base ≤ address → address + count ≤ base + size
    → place_of size address count ≡ Some (address - base)
place_there size address count least most =
    cond-true (nat_le base address && nat_le (address + count) (base + size)) (Some (address - base)) None
    (and_from (nat_le base address) (nat_le (address + count) (base + size)) (le-leb base address least)
    (le-leb (address + count) (base + size) most))

pub place_missing : (size address count : ℕ) → (address < base) ⊎ (base + size < address + count)
    → place_of size address count ≡ None
place_missing size address count (inl below) =
    cond-false (nat_le base address && nat_le (address + count) (base + size)) (Some (address - base)) None
    (and_left (nat_le base address) (nat_le (address + count) (base + size)) (lt-leb base address below))
place_missing size address count (inr above) =
    cond-false (nat_le base address && nat_le (address + count) (base + size)) (Some (address - base)) None
    (and_right (nat_le base address) (nat_le (address + count) (base + size))
    (lt-leb (address + count) (base + size) above))

abbrev pub ending_of : Effect → Ending
ending_of e = outcome_ending e.outcome

pub load_ends : (width : Width) (signed : Bool) (rd address : ℕ) (c : CoreState) (bytes : List ℕ)
    → EndsByAddress 4 5 address (bytes_of width) (length bytes) (ending_of (loads width signed rd address c bytes))
load_ends width signed rd address c bytes =
    let test = nat_eq (address % bytes_of width) 0 in
    let at_place = λ (o : Option ℕ). loads_at o width signed rd address c bytes in
    let place = place_of (length bytes) address (bytes_of width) in
    let other = raises 4 address c bytes in
    record {
      misaligned = λ odd. ap ending_of (cond-false test (at_place place) other (ne_eqb (address % bytes_of width) 0 odd));
      outside = λ even out.
          ap ending_of (cond-true test (at_place place) other (eq-eqb (address % bytes_of width) 0 even))
          ∙ ap (λ (o : Option ℕ). ending_of (at_place o)) (place_missing (length bytes) address (bytes_of width) out);
      inside = λ even least most.
          ap ending_of (cond-true test (at_place place) other (eq-eqb (address % bytes_of width) 0 even))
          ∙ ap (λ (o : Option ℕ). ending_of (at_place o)) (place_there (length bytes) address (bytes_of width) least most);
    }

pub store_ends : (width : Width) (value address : ℕ) (c : CoreState) (bytes : List ℕ)
    → EndsByAddress 6 7 address (bytes_of width) (length bytes) (ending_of (stores width value address c bytes))
store_ends width value address c bytes =
    let test = nat_eq (address % bytes_of width) 0 in
    let at_place = λ (o : Option ℕ). stores_at o width value address c bytes in
    let place = place_of (length bytes) address (bytes_of width) in
    let other = raises 6 address c bytes in
    record {
      misaligned = λ odd. ap ending_of (cond-false test (at_place place) other (ne_eqb (address % bytes_of width) 0 odd));
      outside = λ even out.
          ap ending_of (cond-true test (at_place place) other (eq-eqb (address % bytes_of width) 0 even))
          ∙ ap (λ (o : Option ℕ). ending_of (at_place o)) (place_missing (length bytes) address (bytes_of width) out);
      inside = λ even least most.
          ap ending_of (cond-true test (at_place place) other (eq-eqb (address % bytes_of width) 0 even))
          ∙ ap (λ (o : Option ℕ). ending_of (at_place o)) (place_there (length bytes) address (bytes_of width) least most);
    }

pub target_ends : (jump : Option Jump) (target : ℕ) (c d : CoreState) (bytes : List ℕ)
    → EndsByTarget target
    (ending_of (cond (nat_eq (target % 4) 0) (goes_to jump target d bytes) (raises 0 target c bytes)))
target_ends jump target c d bytes =
    let test = nat_eq (target % 4) 0 in
    let there = goes_to jump target d bytes in
    let other = raises 0 target c bytes in
    record {
      misaligned = λ odd. ap ending_of (cond-false test there other (ne_eqb (target % 4) 0 odd));
      aligned = λ even. ap ending_of (cond-true test there other (eq-eqb (target % 4) 0 even));
    }

pub branch_ends : (way : Bool) (jump : Option Jump) (target : ℕ) (c : CoreState) (bytes : List ℕ) → way ≡ true
    → EndsByTarget target (ending_of (branches way jump target c bytes))
branch_ends true jump target c bytes e = target_ends jump target c c bytes
branch_ends false jump target c bytes e = absurd (cc e)

pub branch_goes_on : (way : Bool) (jump : Option Jump) (target : ℕ) (c : CoreState) (bytes : List ℕ) → way ≡ false
    → ending_of (branches way jump target c bytes) ≡ GoesOn
branch_goes_on true jump target c bytes e = absurd (cc e)
branch_goes_on false jump target c bytes e = refl

pub endings_by_address : EndingsByAddress
endings_by_address word c u bytes = record {
  loads = λ width signed rd rs1 off. load_ends width signed rd (plus (reg c rs1) off) c bytes;
  stores = λ width rs1 rs2 off. store_ends width (reg c rs2) (plus (reg c rs1) off) c bytes;
  jumps = λ rd off. target_ends (jump_of (Jal rd off) false) (plus c.pc off) c (put c rd (plus c.pc 4)) bytes;
  indirect_jumps = λ rd rs1 off.
      target_ends (jump_of (Jalr rd rs1 off) false) (even (plus (reg c rs1) off)) c (put c rd (plus c.pc 4)) bytes;
  branches_taken = λ condition rs1 rs2 off yes_taken.
      let taken = holds condition (reg c rs1) (reg c rs2) in
      branch_ends taken (jump_of (Branch condition rs1 rs2 off) taken) (plus c.pc off) c bytes yes_taken;
  branches_not_taken = λ condition rs1 rs2 off not_taken.
      let taken = holds condition (reg c rs1) (reg c rs2) in
      branch_goes_on taken (jump_of (Branch condition rs1 rs2 off) taken) (plus c.pc off) c bytes not_taken;
}
