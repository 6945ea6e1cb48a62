-- The laws of one step, by cases of its definition.
use Rattle.std.proofs.Common.{◌≡◌, refl, ap, ◌∙◌, ℕ, zero, suc, ◌+◌, ◌-◌, ◌%◌, ◌^◌, ◌≤◌, Bool, true, false, ◌&&◌, not, cond, bit_and, bit_or, nat_le, nat_eq, List, [], ◌∷◌, ◌++◌, length, take, drop, Option, Some, None, Result, Ok, Err, arith, length-append}
use Rattle.std.proofs.lemmas.Bool.{leb-true, and_parts, ne_eqb, cond-false}
use Rattle.std.proofs.lemmas.List.{length-take, length-drop}
use Rattle.std.specs.Option.{IfSome}
use Rattle.std.specs.Prelude.{slice_index, slice_set}
use Rattle.byteorder.specs.Endian.{little_bytes}
use Rattle.ctr_csrs.specs.declared.mode.Mode.{Mode}
use Rattle.ctr_csrs.specs.declared.mode.Mode.TheVariants as modes
use Rattle.ctr_buffer.specs.declared.event.Event.{Event}
use Rattle.ctr_rules.specs.declared.transfer.Act.{Act}
use Rattle.ctr_rules.specs.declared.transfer.Act.TheVariants as acts
use Rattle.guest_modes.specs.Interrupts.{next_interrupt}
use Rattle.guest_modes.specs.declared.gating.CsrFault.{CsrFault}
use Rattle.guest_modes.specs.declared.gating.CsrFault.TheVariants.{Illegal, Virtual}
use Rattle.guest_modes.specs.declared.returning.Ret.{Ret}
use Rattle.guest_modes.specs.declared.returning.Ret.TheVariants as rets
use Rattle.guest_modes.specs.declared.targets.Trap.{Trap}
use Rattle.guest_modes.specs.declared.targets.Trap.TheVariants.{Exception, Interrupt}
use Rattle.indirect_regs.specs.Unit.{UnitState}
use Rattle.indirect_regs.specs.declared.accessing.CsrUse.TheVariants as uses
use Rattle.indirect_regs.specs.Access.{AccessResult, access_of, is_write, new_value}
use Rattle.rv_decode.specs.declared.instruction.CsrArg.TheVariants.{Reg, Imm}
use Rattle.rv_decode.specs.declared.operations.CsrOp.TheVariants.{Write, Set, Clear}
use Rattle.rv_alu.specs.Holds.{holds}
use Rattle.rv_alu.specs.Value as alu
use Rattle.rv_decode.specs.Rows.{instruction_of}
use Rattle.rv_decode.specs.declared.instruction.Instr.{Instr}
use Rattle.rv_decode.specs.declared.instruction.Instr.TheVariants.{Lui, Auipc, Jal, Jalr, Branch, Load, Store, AluImm, Alu, Csr, Fence, FenceI, Ecall, Ebreak, Mret, Sret, Wfi, CtrClr}
use Rattle.rv_decode.specs.declared.operations.Width.{Width}
use Rattle.rv_decode.specs.declared.operations.Width.TheVariants.{B, H, W, D}
use Rattle.rv_hart.specs.declared.outcome.Jump.{Jump}
use Rattle.rv_hart.specs.declared.outcome.Outcome.{Outcome}
use Rattle.rv_hart.specs.declared.outcome.Outcome.TheVariants.{Goes, Returns, Raises}
use Rattle.rv_hart.specs.Processor.{CoreState, plus, reg, put}
use Rattle.rv_hart.specs.Memory.{base, place_of, bytes_of, loaded, stored}
use Rattle.rv_hart.specs.Effect.{Effect, effect, even, jump_of, raises, goes_to, jumps, branches, loads, loads_at, stores, stores_at, call_cause, machine_return, supervisor_return}
use Rattle.rv_hart.specs.Transfers.{events_by, act_in}
use Rattle.rv_hart.specs.Step.{MachineState, trap_transfer, return_transfer, jump_transfer, trapped, concluded, answered, clears, by_effect, executed, by_instruction, by_word, by_interrupt, fetched, lowered, raised, use_of, any_event}
use Rattle.rv_hart.specs.StepLaws.{Leaves, ExceptionsWriteNothing, MemoryKeepsItsSize, NoStepChangesX0, AtMostOneEvent, AccessesWriteByNumber}

-- what holds of both values of a choice holds of the choice
pub of_either : {A : Type 0} (P : A → Type 0) (b : Bool) (x y : A) → P x → P y → P (cond b x y)
of_either P true x y at_x at_y = at_x
of_either P false x y at_x at_y = at_y

-- every effect has one of these shapes: one register is written, nothing is, some bytes of memory are; a return; an exception
pub record Shapes (P : Effect → Type 0) (c : CoreState) (bytes : List ℕ) : Type 0 where
  pub writes : (rd value : ℕ) (kind : Option Jump) (pc : ℕ) → P (record { core = put c rd value; bytes = bytes; outcome = Goes kind pc })
  pub goes : (kind : Option Jump) (pc : ℕ) → P (record { core = c; bytes = bytes; outcome = Goes kind pc })
  pub stores : (width : Width) (value at pc : ℕ) → at + bytes_of width ≤ length bytes
      → P (record { core = c; bytes = stored width value bytes at; outcome = Goes None pc })
  pub returns : (ret : Ret) → P (record { core = c; bytes = bytes; outcome = Returns ret })
  pub raises : (cause value : ℕ) → P (raises cause value c bytes)

pub of_jump : (P : Effect → Type 0) (c : CoreState) (bytes : List ℕ) → Shapes P c bytes
    → (kind : Option Jump) (rd target : ℕ) → P (jumps kind rd target c bytes)
of_jump P c bytes h kind rd target =
    of_either P (nat_eq (target % 4) 0) (goes_to kind target (put c rd (plus c.pc 4)) bytes) (raises 0 target c bytes)
    (h.writes rd (plus c.pc 4) kind target) (h.raises 0 target)

pub of_branch : (P : Effect → Type 0) (c : CoreState) (bytes : List ℕ) → Shapes P c bytes
    → (taken : Bool) (kind : Option Jump) (target : ℕ) → P (branches taken kind target c bytes)
of_branch P c bytes h true kind target =
    of_either P (nat_eq (target % 4) 0) (goes_to kind target c bytes) (raises 0 target c bytes) (h.goes kind target) (h.raises 0 target)
of_branch P c bytes h false kind target = h.goes kind (plus c.pc 4)

pub of_load_at : (P : Effect → Type 0) (c : CoreState) (bytes : List ℕ) → Shapes P c bytes
    → (place : Option ℕ) (width : Width) (signed : Bool) (rd address : ℕ) → P (loads_at place width signed rd address c bytes)
of_load_at P c bytes h (Some at) width signed rd address = h.writes rd (loaded width signed bytes at) None (plus c.pc 4)
of_load_at P c bytes h None width signed rd address = h.raises 5 address

pub of_load : (P : Effect → Type 0) (c : CoreState) (bytes : List ℕ) → Shapes P c bytes
    → (width : Width) (signed : Bool) (rd address : ℕ) → P (loads width signed rd address c bytes)
of_load P c bytes h width signed rd address =
    let place = place_of (length bytes) address (bytes_of width) in
    of_either P (nat_eq (address % bytes_of width) 0) (loads_at place width signed rd address c bytes) (raises 4 address c bytes)
    (of_load_at P c bytes h place width signed rd address) (h.raises 4 address)

-- a place has all its bytes in memory
pub within_if : (b : Bool) (at count size : ℕ) → (b ≡ true → at + count ≤ size) → IfSome (cond b (Some at) None) (λ (p : ℕ). p + count ≤ size)
within_if true at count size is = is refl
within_if false at count size is = tt

pub place_within : (size address count : ℕ) → IfSome (place_of size address count) (λ (p : ℕ). p + count ≤ size)
place_within size address count =
    let above = nat_le base address in
    let inside = nat_le (address + count) (base + size) in
    within_if (above && inside) (address - base) count size
    (λ e.
    let both = and_parts above inside e in
    omega (arith, leb-true base address both.0, leb-true (address + count) (base + size) both.1))

pub of_store_at : (P : Effect → Type 0) (c : CoreState) (bytes : List ℕ) → Shapes P c bytes
    → (width : Width) (place : Option ℕ) → IfSome place (λ (p : ℕ). p + bytes_of width ≤ length bytes)
    → (value address : ℕ) → P (stores_at place width value address c bytes)
of_store_at P c bytes h width (Some at) within value address = h.stores width value at (plus c.pc 4) within
of_store_at P c bytes h width None within value address = h.raises 7 address

pub of_store : (P : Effect → Type 0) (c : CoreState) (bytes : List ℕ) → Shapes P c bytes
    → (width : Width) (value address : ℕ) → P (stores width value address c bytes)
of_store P c bytes h width value address =
    let place = place_of (length bytes) address (bytes_of width) in
    of_either P (nat_eq (address % bytes_of width) 0) (stores_at place width value address c bytes) (raises 6 address c bytes)
    (of_store_at P c bytes h width place (place_within (length bytes) address (bytes_of width)) value address) (h.raises 6 address)

pub of_mret : (P : Effect → Type 0) (c : CoreState) (bytes : List ℕ) → Shapes P c bytes
    → (mode : Mode) (word : ℕ) → P (record { core = c; bytes = bytes; outcome = machine_return mode word })
of_mret P c bytes h modes.M word = h.returns rets.Mret
of_mret P c bytes h modes.S word = h.raises 2 word
of_mret P c bytes h modes.U word = h.raises 2 word
of_mret P c bytes h modes.Vs word = h.raises 2 word
of_mret P c bytes h modes.Vu word = h.raises 2 word

pub of_sret : (P : Effect → Type 0) (c : CoreState) (bytes : List ℕ) → Shapes P c bytes
    → (mode : Mode) (word : ℕ) → P (record { core = c; bytes = bytes; outcome = supervisor_return mode word })
of_sret P c bytes h modes.M word = h.returns rets.SretHs
of_sret P c bytes h modes.S word = h.returns rets.SretHs
of_sret P c bytes h modes.U word = h.raises 2 word
of_sret P c bytes h modes.Vs word = h.returns rets.SretVs
of_sret P c bytes h modes.Vu word = h.raises 22 word

pub of_effect : (P : Effect → Type 0) (c : CoreState) (bytes : List ℕ) → Shapes P c bytes
    → (i : Instr) (word : ℕ) → P (effect i word c bytes)
of_effect P c bytes h (Lui rd imm) word = h.writes rd imm None (plus c.pc 4)
of_effect P c bytes h (Auipc rd imm) word = h.writes rd (plus c.pc imm) None (plus c.pc 4)
of_effect P c bytes h (Jal rd off) word = of_jump P c bytes h (jump_of (Jal rd off) false) rd (plus c.pc off)
of_effect P c bytes h (Jalr rd rs1 off) word = of_jump P c bytes h (jump_of (Jalr rd rs1 off) false) rd (even (plus (reg c rs1) off))
of_effect P c bytes h (Branch condition rs1 rs2 off) word =
    let taken = holds condition (reg c rs1) (reg c rs2) in
    of_branch P c bytes h taken (jump_of (Branch condition rs1 rs2 off) taken) (plus c.pc off)
of_effect P c bytes h (Load width signed rd rs1 off) word = of_load P c bytes h width signed rd (plus (reg c rs1) off)
of_effect P c bytes h (Store width rs1 rs2 off) word = of_store P c bytes h width (reg c rs2) (plus (reg c rs1) off)
of_effect P c bytes h (AluImm op rd rs1 imm) word = h.writes rd (alu.value op (reg c rs1) imm) None (plus c.pc 4)
of_effect P c bytes h (Alu op rd rs1 rs2) word = h.writes rd (alu.value op (reg c rs1) (reg c rs2)) None (plus c.pc 4)
of_effect P c bytes h Ecall word = h.raises (call_cause c.mode) 0
of_effect P c bytes h Ebreak word = h.raises 3 0
of_effect P c bytes h Mret word = of_mret P c bytes h c.mode word
of_effect P c bytes h Sret word = of_sret P c bytes h c.mode word
of_effect P c bytes h (Csr op rd arg csr) word = h.goes None (plus c.pc 4)
of_effect P c bytes h Fence word = h.goes None (plus c.pc 4)
of_effect P c bytes h FenceI word = h.goes None (plus c.pc 4)
of_effect P c bytes h Wfi word = h.goes None (plus c.pc 4)
of_effect P c bytes h CtrClr word = h.goes None (plus c.pc 4)

pub exceptions_write_nothing : ExceptionsWriteNothing
exceptions_write_nothing i word c bytes =
    of_effect (λ (e : Effect). Leaves e.outcome e c bytes) c bytes
    (record {
      writes = λ rd value kind pc. tt;
      goes = λ kind pc. tt;
      stores = λ width value at pc within. tt;
      returns = λ ret. (refl, refl);
      raises = λ cause value. (refl, refl);
    })
    i word

-- a store keeps the size of memory
pub few_bytes : (width : Width) → bytes_of width ≤ 8
few_bytes B = omega arith
few_bytes H = omega arith
few_bytes W = omega arith
few_bytes D = omega arith

pub length_stored : (width : Width) (value : ℕ) (bytes : List ℕ) (at : ℕ) → at + bytes_of width ≤ length bytes
    → length (stored width value bytes at) ≡ length bytes
length_stored width value bytes at within =
    let count = bytes_of width in
    let new = take count (little_bytes 8 value) in
    let rest = drop (at + count) bytes in
    let eight : length (little_bytes 8 value) ≡ 8 = refl in
    omega (
      arith,
      length-append (take at bytes) (new ++ rest),
      length-append new rest,
      length-take at bytes,
      length-take count (little_bytes 8 value),
      length-drop (at + count) bytes,
      within,
      few_bytes width,
      eight,
    )

pub effect_size : (i : Instr) (word : ℕ) (c : CoreState) (bytes : List ℕ) → length (effect i word c bytes).bytes ≡ length bytes
effect_size i word c bytes =
    of_effect (λ (e : Effect). length e.bytes ≡ length bytes) c bytes
    (record {
      writes = λ rd value kind pc. refl;
      goes = λ kind pc. refl;
      stores = λ width value at pc within. length_stored width value bytes at within;
      returns = λ ret. refl;
      raises = λ cause value. refl;
    })
    i word

pub instruction_size : (i : Option Instr) (word : ℕ) (s : MachineState) → length (by_instruction i word s).mem ≡ length s.mem
instruction_size None word s = refl
instruction_size (Some i) word s = effect_size i word s.core s.mem

pub word_size : (w : Option ℕ) (s : MachineState) → length (by_word w s).mem ≡ length s.mem
word_size None s = refl
word_size (Some word) s = instruction_size (instruction_of word) word s

pub interrupt_size : (i : Option ℕ) (s : MachineState) → length (by_interrupt i s).mem ≡ length s.mem
interrupt_size (Some i) s = refl
interrupt_size None s = word_size (fetched s) s

pub memory_keeps_its_size : MemoryKeepsItsSize
memory_keeps_its_size pending s =
    let now = raised pending s in
    interrupt_size (next_interrupt now.core.csrs now.core.mode) now

-- x0 is written by none of them
pub later_set : (xs : List ℕ) (r value : ℕ) → slice_index (slice_set xs (suc r) value) 0 ≡ slice_index xs 0
later_set [] r value = refl
later_set (x ∷ xs) r value = refl

pub put_x0 : (c : CoreState) (r value : ℕ) → slice_index (put c r value).x 0 ≡ slice_index c.x 0
put_x0 c zero value = refl
put_x0 c (suc r) value =
    ap (λ (x : List ℕ). slice_index x 0)
    (cond-false (nat_eq (suc r) 0) c.x (slice_set c.x (suc r) value) (ne_eqb (suc r) 0 (λ e. absurd (omega (arith, e)))))
    ∙ later_set c.x r value

pub effect_x0 : (i : Instr) (word : ℕ) (c : CoreState) (bytes : List ℕ) → slice_index (effect i word c bytes).core.x 0 ≡ slice_index c.x 0
effect_x0 i word c bytes =
    of_effect (λ (e : Effect). slice_index e.core.x 0 ≡ slice_index c.x 0) c bytes
    (record {
      writes = λ rd value kind pc. put_x0 c rd value;
      goes = λ kind pc. refl;
      stores = λ width value at pc within. refl;
      returns = λ ret. refl;
      raises = λ cause value. refl;
    })
    i word

pub concluded_x : (o : Outcome) (c : CoreState) (u : UnitState) → (concluded o c u).core.x ≡ c.x
concluded_x (Goes None pc) c u = refl
concluded_x (Goes (Some kind) pc) c u = refl
concluded_x (Returns ret) c u = refl
concluded_x (Raises cause value) c u = refl

pub answered_x0 : (answer : Result ℕ CsrFault) (a : AccessResult) (rd word : ℕ) (c : CoreState) (u : UnitState)
    → slice_index (answered answer a rd word c u).core.x 0 ≡ slice_index c.x 0
answered_x0 (Ok old) a rd word c u = put_x0 (record c { csrs = a.registers }) rd old
answered_x0 (Err Illegal) a rd word c u = refl
answered_x0 (Err Virtual) a rd word c u = refl

pub clears_x0 : (mode : Mode) (word : ℕ) (c : CoreState) (u : UnitState) → slice_index (clears mode word c u).core.x 0 ≡ slice_index c.x 0
clears_x0 modes.M word c u = refl
clears_x0 modes.S word c u = refl
clears_x0 modes.U word c u = refl
clears_x0 modes.Vs word c u = refl
clears_x0 modes.Vu word c u = refl

-- an act is at most one event
pub few_by : (a : Act) → length (events_by a) ≤ 1
few_by acts.Nothing = omega arith
few_by (acts.Push r) = omega arith
few_by acts.Pop = omega arith
few_by (acts.Swap r) = omega arith
few_by acts.Freeze = omega arith

pub concluded_few : (o : Outcome) (c : CoreState) (u : UnitState) → length (concluded o c u).events ≤ 1
concluded_few (Goes None pc) c u = omega arith
concluded_few (Goes (Some kind) pc) c u = few_by (act_in (jump_transfer kind pc c) u)
concluded_few (Returns ret) c u = few_by (act_in (return_transfer ret c) u)
concluded_few (Raises cause value) c u = few_by (act_in (trap_transfer (Exception cause) c) u)

pub trapped_few : (trap : Trap) (value : ℕ) (c : CoreState) (u : UnitState) → length (trapped trap value c u).events ≤ 1
trapped_few trap value c u = few_by (act_in (trap_transfer trap c) u)

pub few_any : (e : Option Event) → length (any_event e) ≤ 1
few_any None = omega arith
few_any (Some e) = omega arith

pub answered_few : (answer : Result ℕ CsrFault) (a : AccessResult) (rd word : ℕ) (c : CoreState) (u : UnitState)
    → length (answered answer a rd word c u).events ≤ 1
answered_few (Ok old) a rd word c u = few_any a.event
answered_few (Err Illegal) a rd word c u = trapped_few (Exception 2) word c u
answered_few (Err Virtual) a rd word c u = trapped_few (Exception 22) word c u

pub clears_few : (mode : Mode) (word : ℕ) (c : CoreState) (u : UnitState) → length (clears mode word c u).events ≤ 1
clears_few modes.M word c u = omega arith
clears_few modes.S word c u = omega arith
clears_few modes.U word c u = trapped_few (Exception 2) word c u
clears_few modes.Vs word c u = omega arith
clears_few modes.Vu word c u = trapped_few (Exception 22) word c u

-- an instruction that isn't an access and isn't SCTRCLR, by its effect
pub concluded_x0 : (i : Instr) (word : ℕ) (c : CoreState) (u : UnitState) (bytes : List ℕ)
    → slice_index (by_effect (effect i word c bytes) u).core.x 0 ≡ slice_index c.x 0
concluded_x0 i word c u bytes =
    let e = effect i word c bytes in
    ap (λ (x : List ℕ). slice_index x 0) (concluded_x e.outcome e.core u) ∙ effect_x0 i word c bytes

pub executed_x0 : (i : Instr) (word : ℕ) (c : CoreState) (u : UnitState) (bytes : List ℕ)
    → slice_index (executed i word c u bytes).core.x 0 ≡ slice_index c.x 0
executed_x0 (Csr op rd arg csr) word c u bytes =
    let a = access_of u c.csrs c.mode csr (use_of op arg c) in
    answered_x0 a.answer a rd word c u
executed_x0 CtrClr word c u bytes = clears_x0 c.mode word c u
executed_x0 (Lui rd imm) word c u bytes = concluded_x0 (Lui rd imm) word c u bytes
executed_x0 (Auipc rd imm) word c u bytes = concluded_x0 (Auipc rd imm) word c u bytes
executed_x0 (Jal rd off) word c u bytes = concluded_x0 (Jal rd off) word c u bytes
executed_x0 (Jalr rd rs1 off) word c u bytes = concluded_x0 (Jalr rd rs1 off) word c u bytes
executed_x0 (Branch condition rs1 rs2 off) word c u bytes = concluded_x0 (Branch condition rs1 rs2 off) word c u bytes
executed_x0 (Load width signed rd rs1 off) word c u bytes = concluded_x0 (Load width signed rd rs1 off) word c u bytes
executed_x0 (Store width rs1 rs2 off) word c u bytes = concluded_x0 (Store width rs1 rs2 off) word c u bytes
executed_x0 (AluImm op rd rs1 imm) word c u bytes = concluded_x0 (AluImm op rd rs1 imm) word c u bytes
executed_x0 (Alu op rd rs1 rs2) word c u bytes = concluded_x0 (Alu op rd rs1 rs2) word c u bytes
executed_x0 Ecall word c u bytes = concluded_x0 Ecall word c u bytes
executed_x0 Ebreak word c u bytes = concluded_x0 Ebreak word c u bytes
executed_x0 Mret word c u bytes = concluded_x0 Mret word c u bytes
executed_x0 Sret word c u bytes = concluded_x0 Sret word c u bytes
executed_x0 Fence word c u bytes = concluded_x0 Fence word c u bytes
executed_x0 FenceI word c u bytes = concluded_x0 FenceI word c u bytes
executed_x0 Wfi word c u bytes = concluded_x0 Wfi word c u bytes

pub executed_few : (i : Instr) (word : ℕ) (c : CoreState) (u : UnitState) (bytes : List ℕ) → length (executed i word c u bytes).events ≤ 1
executed_few (Csr op rd arg csr) word c u bytes =
    let a = access_of u c.csrs c.mode csr (use_of op arg c) in
    answered_few a.answer a rd word c u
executed_few CtrClr word c u bytes = clears_few c.mode word c u
executed_few (Lui rd imm) word c u bytes =
    let e = effect (Lui rd imm) word c bytes in concluded_few e.outcome e.core u
executed_few (Auipc rd imm) word c u bytes =
    let e = effect (Auipc rd imm) word c bytes in concluded_few e.outcome e.core u
executed_few (Jal rd off) word c u bytes =
    let e = effect (Jal rd off) word c bytes in concluded_few e.outcome e.core u
executed_few (Jalr rd rs1 off) word c u bytes =
    let e = effect (Jalr rd rs1 off) word c bytes in concluded_few e.outcome e.core u
executed_few (Branch condition rs1 rs2 off) word c u bytes =
    let e = effect (Branch condition rs1 rs2 off) word c bytes in concluded_few e.outcome e.core u
executed_few (Load width signed rd rs1 off) word c u bytes =
    let e = effect (Load width signed rd rs1 off) word c bytes in concluded_few e.outcome e.core u
executed_few (Store width rs1 rs2 off) word c u bytes =
    let e = effect (Store width rs1 rs2 off) word c bytes in concluded_few e.outcome e.core u
executed_few (AluImm op rd rs1 imm) word c u bytes =
    let e = effect (AluImm op rd rs1 imm) word c bytes in concluded_few e.outcome e.core u
executed_few (Alu op rd rs1 rs2) word c u bytes =
    let e = effect (Alu op rd rs1 rs2) word c bytes in concluded_few e.outcome e.core u
executed_few Ecall word c u bytes =
    let e = effect Ecall word c bytes in concluded_few e.outcome e.core u
executed_few Ebreak word c u bytes =
    let e = effect Ebreak word c bytes in concluded_few e.outcome e.core u
executed_few Mret word c u bytes =
    let e = effect Mret word c bytes in concluded_few e.outcome e.core u
executed_few Sret word c u bytes =
    let e = effect Sret word c bytes in concluded_few e.outcome e.core u
executed_few Fence word c u bytes =
    let e = effect Fence word c bytes in concluded_few e.outcome e.core u
executed_few FenceI word c u bytes =
    let e = effect FenceI word c bytes in concluded_few e.outcome e.core u
executed_few Wfi word c u bytes =
    let e = effect Wfi word c bytes in concluded_few e.outcome e.core u

-- and so on up to the step
pub instruction_x0 : (i : Option Instr) (word : ℕ) (s : MachineState) → slice_index (by_instruction i word s).step.core.x 0 ≡ slice_index s.core.x 0
instruction_x0 None word s = refl
instruction_x0 (Some i) word s = executed_x0 i word s.core s.unit s.mem

pub word_x0 : (w : Option ℕ) (s : MachineState) → slice_index (by_word w s).step.core.x 0 ≡ slice_index s.core.x 0
word_x0 None s = refl
word_x0 (Some word) s = instruction_x0 (instruction_of word) word s

pub interrupt_x0 : (i : Option ℕ) (s : MachineState) → slice_index (by_interrupt i s).step.core.x 0 ≡ slice_index s.core.x 0
interrupt_x0 (Some i) s = refl
interrupt_x0 None s = word_x0 (fetched s) s

pub no_step_changes_x0 : NoStepChangesX0
no_step_changes_x0 pending s =
    let now = raised pending s in
    interrupt_x0 (next_interrupt now.core.csrs now.core.mode) now

pub instruction_few : (i : Option Instr) (word : ℕ) (s : MachineState) → length (by_instruction i word s).step.events ≤ 1
instruction_few None word s = trapped_few (Exception 2) word s.core s.unit
instruction_few (Some i) word s = executed_few i word s.core s.unit s.mem

pub word_few : (w : Option ℕ) (s : MachineState) → length (by_word w s).step.events ≤ 1
word_few None s = trapped_few (Exception 1) s.core.pc s.core s.unit
word_few (Some word) s = instruction_few (instruction_of word) word s

pub interrupt_few : (i : Option ℕ) (s : MachineState) → length (by_interrupt i s).step.events ≤ 1
interrupt_few (Some i) s = trapped_few (Interrupt i) 0 (lowered i s.core) s.unit
interrupt_few None s = word_few (fetched s) s

pub at_most_one_event : AtMostOneEvent
at_most_one_event pending s =
    let now = raised pending s in
    interrupt_few (next_interrupt now.core.csrs now.core.mode) now

-- CSR instructions by the number of rs1 or the immediate
pub sets_unless : (b : Bool) (old bits : ℕ)
    → (is_write (cond b uses.Read (uses.Set bits)) ≡ not b)
    × (new_value (cond b uses.Read (uses.Set bits)) old ≡ cond (not b) (Some (bit_or old bits)) None)
sets_unless true old bits = (refl, refl)
sets_unless false old bits = (refl, refl)

pub clears_unless : (b : Bool) (old bits : ℕ)
    → (is_write (cond b uses.Read (uses.Clear bits)) ≡ not b)
    × (new_value (cond b uses.Read (uses.Clear bits)) old
    ≡ cond (not b) (Some (bit_and old (2 ^ 64 - 1 - bits))) None)
clears_unless true old bits = (refl, refl)
clears_unless false old bits = (refl, refl)

pub accesses_write_by_number : AccessesWriteByNumber
accesses_write_by_number Write arg c old = record { writes = refl; value = refl }
accesses_write_by_number Set (Reg r) c old =
    let h = sets_unless (nat_eq r 0) old (reg c r) in
    record { writes = h.0; value = h.1 }
accesses_write_by_number Set (Imm n) c old =
    let h = sets_unless (nat_eq n 0) old n in
    record { writes = h.0; value = h.1 }
accesses_write_by_number Clear (Reg r) c old =
    let h = clears_unless (nat_eq r 0) old (reg c r) in
    record { writes = h.0; value = h.1 }
accesses_write_by_number Clear (Imm n) c old =
    let h = clears_unless (nat_eq n 0) old n in
    record { writes = h.0; value = h.1 }
