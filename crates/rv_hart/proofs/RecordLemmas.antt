-- The record of a jump, a branch or a return, by cases of its instruction.
use Rattle.std.proofs.Common.{◌≡◌, inl, inr, refl, ap, sym, subst, ◌∙◌, ℕ, ◌%◌, Bool, true, false, cond, nat_eq, List, [], ◌∷◌, Option, Some, None}
use Rattle.ctr_csrs.specs.declared.mode.Mode.{Mode}
use Rattle.ctr_csrs.specs.declared.mode.Mode.TheVariants as modes
use Rattle.ctr_buffer.specs.declared.event.Event.{Event}
use Rattle.ctr_buffer.specs.declared.event.Event.TheVariants.{Push, Swap}
use Rattle.ctr_buffer.specs.Entry.{Entry, recorded_entry, zero_entry}
use Rattle.ctr_rules.specs.declared.transfer.Act.{Act}
use Rattle.ctr_rules.specs.declared.transfer.Act.TheVariants as acts
use Rattle.ctr_rules.specs.declared.transfer.Record.{Record}
use Rattle.ctr_rules.specs.declared.transfer.Transfer.{Transfer}
use Rattle.ctr_rules.specs.Admitted.{act_by, row_of, view_of}
use Rattle.ctr_rules.specs.FreezeBits.{freezes}
use Rattle.ctr_rules.specs.RowTable.{Row, EmulatedCall, EmulatedReturn, EmulatedSwap, Within, TrapIn, ReturnOut, TrapOut, act_of}
use Rattle.guest_modes.specs.Interrupts.{next_interrupt}
use Rattle.guest_modes.specs.declared.returning.Ret.{Ret}
use Rattle.indirect_regs.specs.Unit.{UnitState}
use Rattle.rv_alu.specs.Holds.{holds}
use Rattle.rv_decode.specs.declared.instruction.Instr.{Instr}
use Rattle.rv_decode.specs.declared.instruction.Instr.TheVariants.{Lui, Auipc, Jal, Jalr, Branch, Load, Store, AluImm, Alu, Csr, Fence, FenceI, Ecall, Ebreak, Mret, Sret, Wfi, CtrClr}
use Rattle.rv_decode.specs.Rows.{instruction_of}
use Rattle.xfer_class.specs.declared.types.XferType.{XferType}
use Rattle.xfer_class.specs.declared.types.XferType.TheVariants as types
use Rattle.xfer_class.specs.Missed.{missed_of}
use Rattle.xfer_class.specs.Types.{code_of, type_of}
use Rattle.rv_hart.specs.declared.outcome.Jump.{Jump}
use Rattle.rv_hart.specs.declared.outcome.Outcome.{Outcome}
use Rattle.rv_hart.specs.declared.outcome.Outcome.TheVariants.{Goes, Returns, Raises}
use Rattle.rv_hart.specs.Effect.{branches, even, goes_to, jump_of, jump_with, machine_return, raises, supervisor_return}
use Rattle.rv_hart.specs.Ending.{decoded_ending, instruction_ending, interrupt_ending, outcome_ending, word_ending}
use Rattle.rv_hart.specs.Executed.{HasEntry, IsKept, IsRecordOf, IsTransfer, TakesNoTrap, TransfersRecordThemselves, decoded_at, instruction_by, is_taken}
use Rattle.rv_hart.specs.Processor.{CoreState, plus, put, reg}
use Rattle.rv_hart.specs.Step.{MachineState, by_effect, by_instruction, by_interrupt, by_word, concluded, executed, fetched, jump_transfer, raised, return_transfer, returned, went}
use Rattle.rv_hart.specs.Transfers.{act_in, entry_of, events_by}
use Rattle.rv_hart.proofs.StepLemmas.{of_either}

-- an act records of a transfer its type, its misprediction, and each of its addresses or 0
abbrev pub IsOf : Transfer → Record → Type 0
IsOf t r = IsKept t.source r.source × IsKept t.target r.target × (r.kind ≡ t.kind) × (r.misp ≡ t.misp)

abbrev pub RecordsOf : Transfer → Act → Type 0
RecordsOf t (acts.Push r) = IsOf t r
RecordsOf t (acts.Swap r) = IsOf t r
RecordsOf t _ = Unit {0}

pub row_records : (row : Row) (t : Transfer) → RecordsOf t (act_of row t)
row_records EmulatedCall t = (inl refl, inl refl, refl, refl)
row_records EmulatedReturn t = tt
row_records EmulatedSwap t = (inl refl, inl refl, refl, refl)
row_records Within t = (inl refl, inl refl, refl, refl)
row_records TrapIn t = (inr refl, inl refl, refl, refl)
row_records ReturnOut t = (inl refl, inr refl, refl, refl)
row_records TrapOut t = (inl refl, inr refl, refl, refl)

pub picked_records : (o : Option Row) (t : Transfer) → RecordsOf t (act_by o t)
picked_records (Some row) t = row_records row t
picked_records None t = tt

pub act_records : (t : Transfer) (u : UnitState) → RecordsOf t (act_in t u)
act_records t u =
    let row = act_by (row_of (view_of t u.m u.vs)) t in
    of_either (RecordsOf t) u.frozen acts.Nothing (cond (freezes t u.m u.vs) acts.Freeze row) tt
    (of_either (RecordsOf t) (freezes t u.m u.vs) acts.Freeze row tt (picked_records (row_of (view_of t u.m u.vs)) t))

-- the entry in the first event
abbrev pub first_entry : List Event → Entry
first_entry (Push e ∷ events) = e
first_entry (Swap e ∷ events) = e
first_entry _ = zero_entry

pub entry_there : (e : Entry) (events : List Event) → HasEntry e events → first_entry events ≡ e
entry_there e events (inl is) = ap first_entry is
entry_there e events (inr is) = ap first_entry is

-- the entry of a transfer
pub record IsEntryOf (t : Transfer) (e : Entry) : Type 0 where
  pub from : ℕ
  pub to : ℕ
  pub source : IsKept t.source from
  pub target : IsKept t.target to
  pub entry : e ≡ recorded_entry from to t.misp (code_of t.kind)

pub of_record : (t : Transfer) (r : Record) (e : Entry) → IsOf t r → entry_of r ≡ e → IsEntryOf t e
of_record t r e is same = record {
  from = r.source;
  to = r.target;
  source = is.0;
  target = is.1;
  entry =
      sym same
      ∙ ap (λ (k : XferType). recorded_entry r.source r.target r.misp (code_of k)) is.2
      ∙ ap (λ (b : Bool). recorded_entry r.source r.target b (code_of t.kind)) is.3;
}

pub none_there : {A : Type 0} (e : Entry) → HasEntry e [] → A
none_there e (inl is) = absurd (cc is)
none_there e (inr is) = absurd (cc is)

pub act_entry : (t : Transfer) (a : Act) (e : Entry) → RecordsOf t a → HasEntry e (events_by a) → IsEntryOf t e
act_entry t acts.Nothing e is h = none_there e h
act_entry t (acts.Push r) e is h = of_record t r e is (entry_there e (events_by (acts.Push r)) h)
act_entry t acts.Pop e is (inl wrong) = absurd (cc wrong)
act_entry t acts.Pop e is (inr wrong) = absurd (cc wrong)
act_entry t (acts.Swap r) e is h = of_record t r e is (entry_there e (events_by (acts.Swap r)) h)
act_entry t acts.Freeze e is h = none_there e h

pub carried_entry : (t : Transfer) (u : UnitState) (e : Entry) → HasEntry e (events_by (act_in t u)) → IsEntryOf t e
carried_entry t u e h = act_entry t (act_in t u) e (act_records t u) h

-- an outcome that returns, or raises an exception
abbrev pub IsReturning : Outcome → Type 0
IsReturning (Goes jump pc) = ⊥
IsReturning _ = Unit {0}

-- the type and the misprediction of a jump or a branch are those of its instruction
abbrev pub kind_in : Option Jump → XferType
kind_in (Some jump) = jump.kind
kind_in None = types.Exception

abbrev pub misp_in : Option Jump → Bool
misp_in (Some jump) = jump.misp
misp_in None = false

pub jump_parts : (misp : Bool) (o : Option XferType) (jump : Jump) → jump_with misp o ≡ Some jump → (o ≡ Some jump.kind) × (misp ≡ jump.misp)
jump_parts misp None jump is = absurd (cc is)
jump_parts misp (Some kind) jump is = (ap (λ (k : XferType). Some k) (ap kind_in is), ap misp_in is)

-- the core d at which an instruction of c concludes has its program counter
pub went_record : (i : Instr) (taken : Bool) (jump : Option Jump) (target : ℕ) (c d : CoreState) (u : UnitState) (e : Entry)
    → jump ≡ jump_of i taken → d.pc ≡ c.pc → HasEntry e (went jump target d u).events
    → IsRecordOf i taken c.pc (went jump target d u).core.pc e
went_record i taken None target c d u e is same h = none_there e h
went_record i taken (Some jump) target c d u e is same h =
    let x = carried_entry (jump_transfer jump target d) u e h in
    let parts = jump_parts (missed_of i taken) (type_of i taken) jump (sym is) in
    record {
      kind = jump.kind;
      type = parts.0;
      from = x.from;
      to = x.to;
      source = subst (λ (n : ℕ). IsKept n x.from) same x.source;
      target = x.target;
      entry = x.entry ∙ ap (λ (b : Bool). recorded_entry x.from x.to b (code_of jump.kind)) (sym parts.1);
    }

-- a jump that raises no exception
pub jump_record : (b : Bool) (i : Instr) (taken : Bool) (jump : Option Jump) (target : ℕ) (c d : CoreState) (u : UnitState) (bytes : List ℕ) (e : Entry)
    → jump ≡ jump_of i taken → d.pc ≡ c.pc
    → TakesNoTrap (outcome_ending (cond b (goes_to jump target d bytes) (raises 0 target c bytes)).outcome)
    → HasEntry e (by_effect (cond b (goes_to jump target d bytes) (raises 0 target c bytes)) u).events
    → IsRecordOf i taken c.pc
    (by_effect (cond b (goes_to jump target d bytes) (raises 0 target c bytes)) u).core.pc e
jump_record true i taken jump target c d u bytes e is same calm h = went_record i taken jump target c d u e is same h
jump_record false i taken jump target c d u bytes e is same calm h = absurd calm

pub branch_record : (way : Bool) (i : Instr) (taken : Bool) (jump : Option Jump) (target : ℕ) (c : CoreState) (u : UnitState) (bytes : List ℕ) (e : Entry)
    → jump ≡ jump_of i taken
    → TakesNoTrap (outcome_ending (branches way jump target c bytes).outcome)
    → HasEntry e (by_effect (branches way jump target c bytes) u).events
    → IsRecordOf i taken c.pc (by_effect (branches way jump target c bytes) u).core.pc e
branch_record true i taken jump target c u bytes e is calm h =
    jump_record (nat_eq (target % 4) 0) i taken jump target c c u bytes e is refl calm h
branch_record false i taken jump target c u bytes e is calm h = went_record i taken jump (plus c.pc 4) c c u e is refl h

-- a return
pub return_record : (i : Instr) (ret : Ret) (c : CoreState) (u : UnitState) (e : Entry) → type_of i false ≡ Some types.TrapReturn
    → missed_of i false ≡ false → HasEntry e (returned ret c u).events
    → IsRecordOf i false c.pc (returned ret c u).core.pc e
return_record i ret c u e typed unmissed h =
    let x = carried_entry (return_transfer ret c) u e h in
    record {
      kind = types.TrapReturn;
      type = typed;
      from = x.from;
      to = x.to;
      source = x.source;
      target = x.target;
      entry = x.entry ∙ ap (λ (b : Bool). recorded_entry x.from x.to b (code_of types.TrapReturn)) (sym unmissed);
    }

pub outcome_record : (i : Instr) (o : Outcome) (c : CoreState) (u : UnitState) (e : Entry) → type_of i false ≡ Some types.TrapReturn
    → missed_of i false ≡ false → IsReturning o → TakesNoTrap (outcome_ending o) → HasEntry e (concluded o c u).events
    → IsRecordOf i false c.pc (concluded o c u).core.pc e
outcome_record i (Goes jump pc) c u e typed unmissed returning calm h = absurd returning
outcome_record i (Returns ret) c u e typed unmissed returning calm h = return_record i ret c u e typed unmissed h
outcome_record i (Raises cause value) c u e typed unmissed returning calm h = absurd calm

pub mret_returns : (m : Mode) (word : ℕ) → IsReturning (machine_return m word)
mret_returns modes.M word = tt
mret_returns modes.S word = tt
mret_returns modes.U word = tt
mret_returns modes.Vs word = tt
mret_returns modes.Vu word = tt

pub sret_returns : (m : Mode) (word : ℕ) → IsReturning (supervisor_return m word)
sret_returns modes.M word = tt
sret_returns modes.S word = tt
sret_returns modes.U word = tt
sret_returns modes.Vs word = tt
sret_returns modes.Vu word = tt

pub instruction_record : (i : Instr) (word : ℕ) (c : CoreState) (u : UnitState) (bytes : List ℕ) (e : Entry) → IsTransfer i
    → TakesNoTrap (instruction_ending i word c u bytes) → HasEntry e (executed i word c u bytes).events
    → IsRecordOf i (is_taken c.x i) c.pc (executed i word c u bytes).core.pc e
instruction_record (Jal rd off) word c u bytes e is calm h =
    let target = plus c.pc off in
    jump_record (nat_eq (target % 4) 0) (Jal rd off) false (jump_of (Jal rd off) false) target c (put c rd (plus c.pc 4)) u bytes e refl refl calm h
instruction_record (Jalr rd rs1 off) word c u bytes e is calm h =
    let target = even (plus (reg c rs1) off) in
    jump_record (nat_eq (target % 4) 0) (Jalr rd rs1 off) false (jump_of (Jalr rd rs1 off) false) target c (put c rd (plus c.pc 4)) u bytes e refl refl calm h
instruction_record (Branch condition rs1 rs2 off) word c u bytes e is calm h =
    let taken = holds condition (reg c rs1) (reg c rs2) in
    branch_record taken (Branch condition rs1 rs2 off) taken (jump_of (Branch condition rs1 rs2 off) taken) (plus c.pc off) c u bytes e refl calm h
instruction_record Mret word c u bytes e is calm h = outcome_record Mret (machine_return c.mode word) c u e refl refl (mret_returns c.mode word) calm h
instruction_record Sret word c u bytes e is calm h = outcome_record Sret (supervisor_return c.mode word) c u e refl refl (sret_returns c.mode word) calm h
instruction_record (Csr op rd arg csr) word c u bytes e is calm h = absurd is
instruction_record CtrClr word c u bytes e is calm h = absurd is
instruction_record (Lui rd imm) word c u bytes e is calm h = absurd is
instruction_record (Auipc rd imm) word c u bytes e is calm h = absurd is
instruction_record (Load width signed rd rs1 off) word c u bytes e is calm h = absurd is
instruction_record (Store width rs1 rs2 off) word c u bytes e is calm h = absurd is
instruction_record (AluImm op rd rs1 imm) word c u bytes e is calm h = absurd is
instruction_record (Alu op rd rs1 rs2) word c u bytes e is calm h = absurd is
instruction_record Fence word c u bytes e is calm h = absurd is
instruction_record FenceI word c u bytes e is calm h = absurd is
instruction_record Ecall word c u bytes e is calm h = absurd is
instruction_record Ebreak word c u bytes e is calm h = absurd is
instruction_record Wfi word c u bytes e is calm h = absurd is

-- up to the step
abbrev pub some_or : Instr → Option Instr → Instr
some_or other (Some i) = i
some_or other None = other

pub decoded_record : (o : Option Instr) (word : ℕ) (s : MachineState) (i : Instr) (e : Entry) → o ≡ Some i → IsTransfer i
    → TakesNoTrap (decoded_ending o word s) → HasEntry e (by_instruction o word s).step.events
    → IsRecordOf i (is_taken s.core.x i) s.core.pc (by_instruction o word s).step.core.pc e
decoded_record None word s i e is transfer calm h = absurd (cc is)
decoded_record (Some k) word s i e is transfer calm h =
    let same : k ≡ i = ap (some_or k) is in
    let after = (by_instruction (Some k) word s).step.core.pc in
    subst (λ (x : Instr). IsRecordOf x (is_taken s.core.x x) s.core.pc after e) same
    (instruction_record k word s.core s.unit s.mem e (subst IsTransfer (sym same) transfer) calm h)

pub word_record : (w : Option ℕ) (s : MachineState) (i : Instr) (e : Entry) → decoded_at w ≡ Some i → IsTransfer i
    → TakesNoTrap (word_ending w s) → HasEntry e (by_word w s).step.events
    → IsRecordOf i (is_taken s.core.x i) s.core.pc (by_word w s).step.core.pc e
word_record None s i e is transfer calm h = absurd (cc is)
word_record (Some word) s i e is transfer calm h = decoded_record (instruction_of word) word s i e is transfer calm h

pub interrupt_record : (p : Option ℕ) (s : MachineState) (i : Instr) (e : Entry) → instruction_by p s ≡ Some i → IsTransfer i
    → TakesNoTrap (interrupt_ending p s) → HasEntry e (by_interrupt p s).step.events
    → IsRecordOf i (is_taken s.core.x i) s.core.pc (by_interrupt p s).step.core.pc e
interrupt_record (Some cause) s i e is transfer calm h = absurd (cc is)
interrupt_record None s i e is transfer calm h = word_record (fetched s) s i e is transfer calm h

pub transfers_record_themselves : TransfersRecordThemselves
transfers_record_themselves pending s i e is transfer calm h =
    let now = raised pending s in
    interrupt_record (next_interrupt now.core.csrs now.core.mode) now i e is transfer calm h
