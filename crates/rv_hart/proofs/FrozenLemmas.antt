-- FROZEN after a step, by cases of the step.
use Rattle.std.proofs.Common.{◌≡◌, ◌⊎◌, inl, inr, refl, sym, ◌∙◌, ap, ℕ, Bool, true, false, ◌&&◌, ◌||◌, cond, nat_eq, List, Option, Some, None, Result, Ok, Err}
use Rattle.std.proofs.lemmas.Bool.{and_parts, or_cases, and_from, or_left, or_right, eqb-true, eq-eqb, cases_Bool}
use Rattle.ctr_bits.specs.Field.{field_of}
use Rattle.ctr_csrs.specs.declared.control_bit.ControlBit.TheVariants.{Bpfrz, Lcofifrz}
use Rattle.ctr_csrs.specs.declared.mode.Mode.{Mode}
use Rattle.ctr_csrs.specs.declared.mode.Mode.TheVariants as modes
use Rattle.ctr_rules.specs.declared.transfer.Act.{Act}
use Rattle.ctr_rules.specs.declared.transfer.Act.TheVariants as acts
use Rattle.ctr_rules.specs.declared.transfer.Transfer.{Transfer}
use Rattle.ctr_rules.specs.Admitted.{act_by, row_of, view_of}
use Rattle.ctr_rules.specs.FreezeBits.{freezes, freezes_in}
use Rattle.ctr_rules.specs.RowTable.{Row, EmulatedCall, EmulatedReturn, EmulatedSwap, Within, TrapIn, ReturnOut, TrapOut}
use Rattle.guest_modes.specs.declared.gating.CsrFault.{CsrFault}
use Rattle.guest_modes.specs.declared.gating.CsrFault.TheVariants.{Illegal, Virtual}
use Rattle.guest_modes.specs.declared.returning.Ret.{Ret}
use Rattle.guest_modes.specs.declared.targets.Trap.{Trap}
use Rattle.guest_modes.specs.declared.targets.Trap.TheVariants.{Exception, Interrupt}
use Rattle.guest_modes.specs.Interrupts.{next_interrupt}
use Rattle.indirect_regs.specs.Access.{AccessResult, access_of}
use Rattle.indirect_regs.specs.Laws.{FrozenChangesByStatus}
use Rattle.indirect_regs.specs.Unit.{UnitState}
use Rattle.rv_decode.specs.declared.instruction.Instr.{Instr}
use Rattle.rv_decode.specs.declared.instruction.Instr.TheVariants.{Lui, Auipc, Jal, Jalr, Branch, Load, Store, AluImm, Alu, Csr, Fence, FenceI, Ecall, Ebreak, Mret, Sret, Wfi, CtrClr}
use Rattle.rv_decode.specs.Rows.{instruction_of}
use Rattle.rv_hart.specs.declared.outcome.Jump.{Jump}
use Rattle.rv_hart.specs.Effect.{Effect, effect}
use Rattle.rv_hart.specs.Ending.{Ending, GoesOn, Returned, Trapped, access_ending, clear_ending, decoded_ending, instruction_ending, interrupt_ending, outcome_ending, return_core, word_ending}
use Rattle.rv_hart.specs.Executed.{decoded_at, instruction_by}
use Rattle.rv_hart.specs.Frozen.{ChangesFrozen, FreezesSetFrozen, FrozenChanges, IsFreeze, SetsFrozen, control_of}
use Rattle.rv_hart.specs.Processor.{CoreState, put}
use Rattle.rv_hart.specs.Step.{MachineState, Step, answered, by_effect, by_instruction, by_interrupt, by_word, carried, clears, executed, fetched, jump_transfer, lowered, raised, return_transfer, trap_transfer, trapped, use_of, went}
use Rattle.rv_hart.specs.Transfers.{frozen_by}
use Rattle.rv_hart.proofs.StepLemmas.{Shapes, of_effect}

-- no row freezes
pub row_keeps : (o : Option Row) (t : Transfer) (frozen : Bool) → frozen_by (act_by o t) frozen ≡ frozen
row_keeps None t frozen = refl
row_keeps (Some EmulatedCall) t frozen = refl
row_keeps (Some EmulatedReturn) t frozen = refl
row_keeps (Some EmulatedSwap) t frozen = refl
row_keeps (Some Within) t frozen = refl
row_keeps (Some TrapIn) t frozen = refl
row_keeps (Some ReturnOut) t frozen = refl
row_keeps (Some TrapOut) t frozen = refl

abbrev pub decided : Bool → Bool → Option Row → Transfer → Act
decided frozen freezing o t = cond frozen acts.Nothing (cond freezing acts.Freeze (act_by o t))

pub frozen_after : (frozen freezing : Bool) (o : Option Row) (t : Transfer)
    → (frozen_by (decided frozen freezing o t) frozen ≡ frozen)
    ⊎ ((frozen_by (decided frozen freezing o t) frozen ≡ true) × (freezing ≡ true))
frozen_after true freezing o t = inl refl
frozen_after false true o t = inr (refl, refl)
frozen_after false false o t = inl (row_keeps o t false)

pub calm_after : (frozen : Bool) (o : Option Row) (t : Transfer)
    → frozen_by (decided frozen false o t) frozen ≡ frozen
calm_after true o t = refl
calm_after false o t = row_keeps o t false

pub frozen_where : (frozen freezing : Bool) (o : Option Row) (t : Transfer) → freezing ≡ true
    → frozen_by (decided frozen freezing o t) frozen ≡ true
frozen_where true freezing o t e = refl
frozen_where false true o t e = refl
frozen_where false false o t e = absurd (cc e)

-- the freeze bits of a mode that takes traps are those of its control register
pub breakpoint_bit : (to : Mode) (u : UnitState) → freezes_in to u.m u.vs Bpfrz ≡ true
    → field_of 11 1 (control_of to u) ≡ 1
breakpoint_bit modes.M u e = eqb-true (field_of 11 1 u.m) 1 e
breakpoint_bit modes.S u e = eqb-true (field_of 11 1 u.m) 1 e
breakpoint_bit modes.U u e = absurd (cc e)
breakpoint_bit modes.Vs u e = eqb-true (field_of 11 1 u.vs) 1 e
breakpoint_bit modes.Vu u e = absurd (cc e)

pub overflow_bit : (to : Mode) (u : UnitState) → freezes_in to u.m u.vs Lcofifrz ≡ true
    → field_of 12 1 (control_of to u) ≡ 1
overflow_bit modes.M u e = eqb-true (field_of 12 1 u.m) 1 e
overflow_bit modes.S u e = eqb-true (field_of 12 1 u.m) 1 e
overflow_bit modes.U u e = absurd (cc e)
overflow_bit modes.Vs u e = eqb-true (field_of 12 1 u.vs) 1 e
overflow_bit modes.Vu u e = absurd (cc e)

pub has_breakpoint_bit : (to : Mode) (u : UnitState) → field_of 11 1 (control_of to u) ≡ 1
    → freezes_in to u.m u.vs Bpfrz ≡ true
has_breakpoint_bit modes.M u e = eq-eqb (field_of 11 1 u.m) 1 e
has_breakpoint_bit modes.S u e = eq-eqb (field_of 11 1 u.m) 1 e
has_breakpoint_bit modes.U u e = absurd (cc e)
has_breakpoint_bit modes.Vs u e = eq-eqb (field_of 11 1 u.vs) 1 e
has_breakpoint_bit modes.Vu u e = absurd (cc e)

pub has_overflow_bit : (to : Mode) (u : UnitState) → field_of 12 1 (control_of to u) ≡ 1
    → freezes_in to u.m u.vs Lcofifrz ≡ true
has_overflow_bit modes.M u e = eq-eqb (field_of 12 1 u.m) 1 e
has_overflow_bit modes.S u e = eq-eqb (field_of 12 1 u.m) 1 e
has_overflow_bit modes.U u e = absurd (cc e)
has_overflow_bit modes.Vs u e = eq-eqb (field_of 12 1 u.vs) 1 e
has_overflow_bit modes.Vu u e = absurd (cc e)

-- which traps freeze
pub freeze_is : (trap : Trap) (c : CoreState) (u : UnitState)
    → freezes (trap_transfer trap c) u.m u.vs ≡ true
    → IsFreeze trap (control_of (trap_transfer trap c).to u)
freeze_is (Exception cause) c u e =
    let to = (trap_transfer (Exception cause) c).to in
    let first = nat_eq cause 3 && freezes_in to u.m u.vs Bpfrz in
    elim (or_cases first false e) [
      | inl h ↦
          let parts = and_parts (nat_eq cause 3) (freezes_in to u.m u.vs Bpfrz) h in
          (eqb-true cause 3 parts.0, breakpoint_bit to u parts.1)
      | inr wrong ↦ absurd (cc wrong)
    ]
freeze_is (Interrupt i) c u e =
    let to = (trap_transfer (Interrupt i) c).to in
    let parts = and_parts (nat_eq i 13) (freezes_in to u.m u.vs Lcofifrz) e in
    (eqb-true i 13 parts.0, overflow_bit to u parts.1)

pub is_freeze : (trap : Trap) (c : CoreState) (u : UnitState)
    → IsFreeze trap (control_of (trap_transfer trap c).to u)
    → freezes (trap_transfer trap c) u.m u.vs ≡ true
is_freeze (Exception cause) c u h =
    let to = (trap_transfer (Exception cause) c).to in
    or_left (nat_eq cause 3 && freezes_in to u.m u.vs Bpfrz) false
    (and_from (nat_eq cause 3) (freezes_in to u.m u.vs Bpfrz) (eq-eqb cause 3 h.0) (has_breakpoint_bit to u h.1))
is_freeze (Interrupt i) c u h =
    let to = (trap_transfer (Interrupt i) c).to in
    and_from (nat_eq i 13) (freezes_in to u.m u.vs Lcofifrz) (eq-eqb i 13 h.0) (has_overflow_bit to u h.1)

-- the laws of one step
abbrev pub StepChanges : Ending → Option Instr → CoreState → UnitState → Step → Type 0
StepChanges end i c u step =
    (step.unit.frozen ≡ u.frozen) ⊎ ChangesFrozen end i c u step.core.mode step.unit.frozen

abbrev pub StepSets : Ending → UnitState → Step → Type 0
StepSets end u step = SetsFrozen end u step.core.mode step.unit.frozen

pub trapped_changes : (trap : Trap) (value : ℕ) (c : CoreState) (u : UnitState) (i : Option Instr) (d : CoreState)
    → StepChanges (Trapped trap value) i d u (trapped trap value c u)
trapped_changes trap value c u i d =
    let t = trap_transfer trap c in
    elim (frozen_after u.frozen (freezes t u.m u.vs) (row_of (view_of t u.m u.vs)) t) [
      | inl same ↦ inl same
      | inr h ↦ inr (h.0, freeze_is trap c u h.1)
    ]

pub trapped_sets : (trap : Trap) (value : ℕ) (c : CoreState) (u : UnitState)
    → StepSets (Trapped trap value) u (trapped trap value c u)
trapped_sets trap value c u = λ h.
    let t = trap_transfer trap c in
    frozen_where u.frozen (freezes t u.m u.vs) (row_of (view_of t u.m u.vs)) t (is_freeze trap c u h)

-- a transfer that is no trap leaves FROZEN
pub carried_keeps : (t : Transfer) (c : CoreState) (u : UnitState) → freezes t u.m u.vs ≡ false
    → (carried t c u).unit.frozen ≡ u.frozen
carried_keeps t c u calm =
    let o = row_of (view_of t u.m u.vs) in
    ap (λ (b : Bool). frozen_by (decided u.frozen b o t) u.frozen) calm ∙ calm_after u.frozen o t

pub went_keeps : (jump : Option Jump) (pc : ℕ) (c : CoreState) (u : UnitState)
    → (went jump pc c u).unit.frozen ≡ u.frozen
went_keeps None pc c u = refl
went_keeps (Some jump) pc c u = carried_keeps (jump_transfer jump pc c) (record c { pc = pc }) u refl

pub effect_changes : (i : Instr) (word : ℕ) (c : CoreState) (u : UnitState) (bytes : List ℕ) (j : Option Instr)
    → StepChanges (outcome_ending (effect i word c bytes).outcome) j c u (by_effect (effect i word c bytes) u)
effect_changes i word c u bytes j =
    of_effect (λ (e : Effect). StepChanges (outcome_ending e.outcome) j c u (by_effect e u)) c bytes
    (record {
      writes = λ rd value kind pc. inl (went_keeps kind pc (put c rd value) u);
      goes = λ kind pc. inl (went_keeps kind pc c u);
      stores = λ width value at pc within. inl refl;
      returns = λ ret. inl (carried_keeps (return_transfer ret c) (return_core ret c) u refl);
      raises = λ cause value. trapped_changes (Exception cause) value c u j c;
    }) i word

pub effect_sets : (i : Instr) (word : ℕ) (c : CoreState) (u : UnitState) (bytes : List ℕ)
    → StepSets (outcome_ending (effect i word c bytes).outcome) u (by_effect (effect i word c bytes) u)
effect_sets i word c u bytes =
    of_effect (λ (e : Effect). StepSets (outcome_ending e.outcome) u (by_effect e u)) c bytes
    (record {
      writes = λ rd value kind pc. tt;
      goes = λ kind pc. tt;
      stores = λ width value at pc within. tt;
      returns = λ ret. tt;
      raises = λ cause value. trapped_sets (Exception cause) value c u;
    }) i word

pub answer_sets : (answer : Result ℕ CsrFault) (a : AccessResult) (rd word : ℕ) (c : CoreState) (u : UnitState)
    → StepSets (access_ending answer word) u (answered answer a rd word c u)
answer_sets (Ok old) a rd word c u = tt
answer_sets (Err Illegal) a rd word c u = trapped_sets (Exception 2) word c u
answer_sets (Err Virtual) a rd word c u = trapped_sets (Exception 22) word c u

pub answer_changes : (answer : Result ℕ CsrFault) (a : AccessResult) (rd word : ℕ) (c : CoreState) (u : UnitState) (i : Option Instr)
    → ((a.unit.frozen ≡ u.frozen) ⊎ ChangesFrozen GoesOn i c u c.mode a.unit.frozen)
    → StepChanges (access_ending answer word) i c u (answered answer a rd word c u)
answer_changes (Ok old) a rd word c u i h = h
answer_changes (Err Illegal) a rd word c u i h = trapped_changes (Exception 2) word c u i c
answer_changes (Err Virtual) a rd word c u i h = trapped_changes (Exception 22) word c u i c

pub clear_changes : (mode : Mode) (word : ℕ) (c : CoreState) (u : UnitState) (i : Option Instr)
    → StepChanges (clear_ending mode word) i c u (clears mode word c u)
clear_changes modes.M word c u i = inl refl
clear_changes modes.S word c u i = inl refl
clear_changes modes.U word c u i = trapped_changes (Exception 2) word c u i c
clear_changes modes.Vs word c u i = inl refl
clear_changes modes.Vu word c u i = trapped_changes (Exception 22) word c u i c

pub clear_sets : (mode : Mode) (word : ℕ) (c : CoreState) (u : UnitState)
    → StepSets (clear_ending mode word) u (clears mode word c u)
clear_sets modes.M word c u = tt
clear_sets modes.S word c u = tt
clear_sets modes.U word c u = trapped_sets (Exception 2) word c u
clear_sets modes.Vs word c u = tt
clear_sets modes.Vu word c u = trapped_sets (Exception 22) word c u

pub instruction_sets : (i : Instr) (word : ℕ) (c : CoreState) (u : UnitState) (bytes : List ℕ)
    → StepSets (instruction_ending i word c u bytes) u (executed i word c u bytes)
instruction_sets (Csr op rd arg csr) word c u bytes =
    let a = access_of u c.csrs c.mode csr (use_of op arg c) in
    answer_sets a.answer a rd word c u
instruction_sets CtrClr word c u bytes = clear_sets c.mode word c u
instruction_sets (Lui rd imm) word c u bytes = effect_sets (Lui rd imm) word c u bytes
instruction_sets (Auipc rd imm) word c u bytes = effect_sets (Auipc rd imm) word c u bytes
instruction_sets (Jal rd off) word c u bytes = effect_sets (Jal rd off) word c u bytes
instruction_sets (Jalr rd rs1 off) word c u bytes = effect_sets (Jalr rd rs1 off) word c u bytes
instruction_sets (Branch condition rs1 rs2 off) word c u bytes = effect_sets (Branch condition rs1 rs2 off) word c u bytes
instruction_sets (Load width signed rd rs1 off) word c u bytes = effect_sets (Load width signed rd rs1 off) word c u bytes
instruction_sets (Store width rs1 rs2 off) word c u bytes = effect_sets (Store width rs1 rs2 off) word c u bytes
instruction_sets (AluImm op rd rs1 imm) word c u bytes = effect_sets (AluImm op rd rs1 imm) word c u bytes
instruction_sets (Alu op rd rs1 rs2) word c u bytes = effect_sets (Alu op rd rs1 rs2) word c u bytes
instruction_sets Fence word c u bytes = effect_sets Fence word c u bytes
instruction_sets FenceI word c u bytes = effect_sets FenceI word c u bytes
instruction_sets Ecall word c u bytes = effect_sets Ecall word c u bytes
instruction_sets Ebreak word c u bytes = effect_sets Ebreak word c u bytes
instruction_sets Mret word c u bytes = effect_sets Mret word c u bytes
instruction_sets Sret word c u bytes = effect_sets Sret word c u bytes
instruction_sets Wfi word c u bytes = effect_sets Wfi word c u bytes

pub decoded_sets : (o : Option Instr) (word : ℕ) (s : MachineState)
    → StepSets (decoded_ending o word s) s.unit (by_instruction o word s).step
decoded_sets None word s = trapped_sets (Exception 2) word s.core s.unit
decoded_sets (Some i) word s = instruction_sets i word s.core s.unit s.mem

pub word_sets : (w : Option ℕ) (s : MachineState)
    → StepSets (word_ending w s) s.unit (by_word w s).step
word_sets None s = trapped_sets (Exception 1) s.core.pc s.core s.unit
word_sets (Some word) s = decoded_sets (instruction_of word) word s

pub interrupt_sets : (p : Option ℕ) (s : MachineState)
    → StepSets (interrupt_ending p s) s.unit (by_interrupt p s).step
interrupt_sets (Some i) s = trapped_sets (Interrupt i) 0 (lowered i s.core) s.unit
interrupt_sets None s = word_sets (fetched s) s

pub freezes_set_frozen : FreezesSetFrozen
freezes_set_frozen pending s =
    let now = raised pending s in
    interrupt_sets (next_interrupt now.core.csrs now.core.mode) now

-- by the law of accesses
module _ (accesses : FrozenChangesByStatus) where
  pub instruction_changes : (i : Instr) (word : ℕ) (c : CoreState) (u : UnitState) (bytes : List ℕ)
      → StepChanges (instruction_ending i word c u bytes) (Some i) c u (executed i word c u bytes)
  instruction_changes (Csr op rd arg csr) word c u bytes =
      let a = access_of u c.csrs c.mode csr (use_of op arg c) in
      answer_changes a.answer a rd word c u (Some (Csr op rd arg csr)) (accesses u c.csrs c.mode csr (use_of op arg c))
  instruction_changes CtrClr word c u bytes = clear_changes c.mode word c u (Some CtrClr)
  instruction_changes (Lui rd imm) word c u bytes = effect_changes (Lui rd imm) word c u bytes (Some (Lui rd imm))
  instruction_changes (Auipc rd imm) word c u bytes = effect_changes (Auipc rd imm) word c u bytes (Some (Auipc rd imm))
  instruction_changes (Jal rd off) word c u bytes = effect_changes (Jal rd off) word c u bytes (Some (Jal rd off))
  instruction_changes (Jalr rd rs1 off) word c u bytes = effect_changes (Jalr rd rs1 off) word c u bytes (Some (Jalr rd rs1 off))
  instruction_changes (Branch condition rs1 rs2 off) word c u bytes = effect_changes (Branch condition rs1 rs2 off) word c u bytes (Some (Branch condition rs1 rs2 off))
  instruction_changes (Load width signed rd rs1 off) word c u bytes = effect_changes (Load width signed rd rs1 off) word c u bytes (Some (Load width signed rd rs1 off))
  instruction_changes (Store width rs1 rs2 off) word c u bytes = effect_changes (Store width rs1 rs2 off) word c u bytes (Some (Store width rs1 rs2 off))
  instruction_changes (AluImm op rd rs1 imm) word c u bytes = effect_changes (AluImm op rd rs1 imm) word c u bytes (Some (AluImm op rd rs1 imm))
  instruction_changes (Alu op rd rs1 rs2) word c u bytes = effect_changes (Alu op rd rs1 rs2) word c u bytes (Some (Alu op rd rs1 rs2))
  instruction_changes Fence word c u bytes = effect_changes Fence word c u bytes (Some Fence)
  instruction_changes FenceI word c u bytes = effect_changes FenceI word c u bytes (Some FenceI)
  instruction_changes Ecall word c u bytes = effect_changes Ecall word c u bytes (Some Ecall)
  instruction_changes Ebreak word c u bytes = effect_changes Ebreak word c u bytes (Some Ebreak)
  instruction_changes Mret word c u bytes = effect_changes Mret word c u bytes (Some Mret)
  instruction_changes Sret word c u bytes = effect_changes Sret word c u bytes (Some Sret)
  instruction_changes Wfi word c u bytes = effect_changes Wfi word c u bytes (Some Wfi)

  pub decoded_changes : (o : Option Instr) (word : ℕ) (s : MachineState)
      → StepChanges (decoded_ending o word s) o s.core s.unit (by_instruction o word s).step
  decoded_changes None word s = trapped_changes (Exception 2) word s.core s.unit None s.core
  decoded_changes (Some i) word s = instruction_changes i word s.core s.unit s.mem

  pub word_changes : (w : Option ℕ) (s : MachineState)
      → StepChanges (word_ending w s) (decoded_at w) s.core s.unit (by_word w s).step
  word_changes None s = trapped_changes (Exception 1) s.core.pc s.core s.unit None s.core
  word_changes (Some word) s = decoded_changes (instruction_of word) word s

  pub interrupt_changes : (p : Option ℕ) (s : MachineState)
      → StepChanges (interrupt_ending p s) (instruction_by p s) s.core s.unit (by_interrupt p s).step
  interrupt_changes (Some i) s = trapped_changes (Interrupt i) 0 (lowered i s.core) s.unit None s.core
  interrupt_changes None s = word_changes (fetched s) s

  pub frozen_changes : FrozenChanges
  frozen_changes pending s =
      let now = raised pending s in
      interrupt_changes (next_interrupt now.core.csrs now.core.mode) now
