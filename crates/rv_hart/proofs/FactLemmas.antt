-- A step keeps the facts of states: one lemma a function of its definition, with a premise for each argument.
use Rattle.std.proofs.Common.{◌≡◌, refl, ap, subst, ◌∙◌, ℕ, zero, suc, ◌+◌, ◌-◌, ◌/◌, ◌%◌, ◌^◌, ◌<◌, Bool, true, false, ◌&&◌, cond, nat_eq, ltb, List, [], ◌∷◌, ◌++◌, fold, length, take, drop, replicate, Option, Some, None, Result, Ok, Err, arith, lit<}
use Rattle.std.specs.Option.{IfSome}
use Rattle.std.specs.Prelude.{slice_index, slice_set}
use Rattle.std.specs.Int.{byte_at, bytes_low_first}
use Rattle.std.proofs.lemmas.Bool.{eqb-true}
use Rattle.std.proofs.lemmas.Nat.{mod_below}
use Rattle.std.proofs.lemmas.List.{length-set}
use Rattle.std.proofs.lemmas.List.Elements.{All-nil, All-cons, All-take, All-drop, All-append, All-set, All-replicate, All-from_recursion}
use Rattle.byteorder.specs.Endian.{little_bytes, little_number}
use Rattle.byteorder.specs.Numbers.{little_from-lt}
use Rattle.ctr_bits.specs.Sext.{sign_extension}
use Rattle.ctr_csrs.specs.Depths.{entries_of}
use Rattle.ctr_csrs.specs.declared.mode.Mode.{Mode}
use Rattle.ctr_csrs.specs.declared.mode.Mode.TheVariants as modes
use Rattle.ctr_buffer.specs.declared.event.Event.{Event}
use Rattle.ctr_buffer.specs.declared.event.Event.TheVariants.{Clear}
use Rattle.ctr_buffer.specs.Entry.{IsEntry, with_flag, zero_entry}
use Rattle.ctr_buffer.specs.History.{after, stack_of, CanTakeAll}
use Rattle.ctr_buffer.specs.Stack.{Stack, empty}
use Rattle.ctr_buffer.specs.Facts.{IsRecorded, IsEvent, IsBuffer}
use Rattle.ctr_buffer.specs.FactLemmas.{zero_is, item_or, buffers_stay}
use Rattle.ctr_rules.specs.declared.transfer.Transfer.{Transfer}
use Rattle.ctr_rules.specs.declared.transfer.Record.{Record}
use Rattle.ctr_rules.specs.declared.transfer.Act.{Act}
use Rattle.ctr_rules.specs.declared.transfer.Act.TheVariants as acts
use Rattle.ctr_rules.specs.FreezeBits.{freezes}
use Rattle.ctr_rules.specs.RowTable.{Row, EmulatedCall, EmulatedReturn, EmulatedSwap, Within, TrapIn, ReturnOut, TrapOut, act_of}
use Rattle.ctr_rules.specs.Admitted.{act_by, row_of, view_of}
use Rattle.guest_modes.specs.declared.causes.TheConstants.{INTERRUPTS}
use Rattle.guest_modes.specs.Facts.{IsPriv, IsPlace, IsSmall, IsKept, kept}
use Rattle.guest_modes.specs.FactLemmas.{entered_keeps, left_keeps, handler_place, return_place, raised_keeps, cleared_keeps}
use Rattle.guest_modes.specs.Fresh.{fresh_registers}
use Rattle.guest_modes.specs.Interrupts.{next_interrupt, first_of, first_for, or_else, is_candidate}
use Rattle.guest_modes.specs.Traps.{interrupt_order, interrupt_taker, is_same}
use Rattle.guest_modes.specs.Words.{IsWithin}
use Rattle.guest_modes.specs.declared.gating.CsrFault.{CsrFault}
use Rattle.guest_modes.specs.declared.gating.CsrFault.TheVariants.{Illegal, Virtual}
use Rattle.guest_modes.specs.declared.returning.Ret.{Ret}
use Rattle.guest_modes.specs.declared.registers.Priv.{Priv}
use Rattle.guest_modes.specs.declared.targets.Trap.{Trap}
use Rattle.guest_modes.specs.declared.targets.Trap.TheVariants.{Exception, Interrupt}
use Rattle.indirect_regs.specs.Unit.{UnitState, HasControls, CanTakeAny}
use Rattle.indirect_regs.specs.Access.{AccessResult, access_of}
use Rattle.indirect_regs.specs.Facts.{IsWholeUnit, UseFits, AnswerFits, IsAccessed}
use Rattle.indirect_regs.specs.FactLemmas.{accessed_keeps, with_stack}
use Rattle.rv_alu.specs.Holds.{holds}
use Rattle.rv_alu.specs.Value as alu
use Rattle.rv_alu.specs.Sizes.{value_fits}
use Rattle.rv_decode.specs.Rows.{instruction_of}
use Rattle.rv_decode.specs.WordFits.{WordsFit}
use Rattle.rv_decode.specs.declared.instruction.Instr.{Instr}
use Rattle.rv_decode.specs.declared.instruction.Instr.TheVariants.{Lui, Auipc, Jal, Jalr, Branch, Load, Store, AluImm, Alu, Csr, Fence, FenceI, Ecall, Ebreak, Mret, Sret, Wfi, CtrClr}
use Rattle.rv_decode.specs.declared.instruction.CsrArg.{CsrArg}
use Rattle.rv_decode.specs.declared.instruction.CsrArg.TheVariants.{Reg, Imm}
use Rattle.rv_decode.specs.declared.operations.CsrOp.{CsrOp}
use Rattle.rv_decode.specs.declared.operations.CsrOp.TheVariants.{Write, Set, Clear as Clears}
use Rattle.rv_decode.specs.declared.operations.Width.{Width}
use Rattle.rv_decode.specs.declared.operations.Width.TheVariants.{B, H, W, D}
use Rattle.xfer_class.specs.Types.{code_of}
use Rattle.xfer_class.specs.declared.types.XferType.{XferType}
use Rattle.xfer_class.specs.declared.types.XferType.TheVariants as types
use Rattle.rv_hart.specs.declared.outcome.Jump.{Jump}
use Rattle.rv_hart.specs.declared.outcome.Outcome.{Outcome}
use Rattle.rv_hart.specs.declared.outcome.Outcome.TheVariants.{Goes, Returns, Raises}
use Rattle.rv_hart.specs.Processor.{CoreState, plus, reg, put, at_next}
use Rattle.rv_hart.specs.Memory.{place_of, bytes_of, number_at, loaded, stored}
use Rattle.rv_hart.specs.Effect.{Effect, effect, even, jump_of, raises, gives, goes_to, jumps, branches, loads, loads_at, stores, stores_at, call_cause, machine_return, supervisor_return}
use Rattle.rv_hart.specs.Transfers.{entry_of, events_by, act_in}
use Rattle.rv_hart.specs.Step.{MachineState, carried, trap_transfer, return_transfer, jump_transfer, trapped, returned, went, concluded, operand, is_zero, use_of, any_event, answered, clears, by_effect, executed, by_instruction, by_word, fetched_at, fetched, lowered, by_interrupt, raised, step_of, events_of, next}
use Rattle.rv_hart.specs.Task.{Task, causes}
use Rattle.rv_hart.specs.Lone as lones
use Rattle.rv_hart.specs.Facts.{AreRegisters, IsCore, AreBytes, IsState, AreEvents, IsStep, IsMade, IsTask, CanReplay, StepsKeep}
use Rattle.rv_hart.proofs.StepLemmas.{of_either, put_x0}
use Rattle.rv_hart.proofs.TaskLemmas.{first_unit, causes_within}
use Rattle.rv_hart.proofs.Lones.{lone_follows}

-- registers
pub small : ℕ → Type 0
small n = n < 2 ^ 64

pub reg_fits : (c : CoreState) (r : ℕ) → IsCore c → reg c r < 2 ^ 64
reg_fits c r h = of_either (λ (n : ℕ). n < 2 ^ 64) (nat_eq r 0) 0 (slice_index c.x r) (lit< tt) (item_or (λ (n : ℕ). n < 2 ^ 64) c.x r 0 h.x.words (lit< tt))

pub set_fits : (x : List ℕ) (r v : ℕ) → AreRegisters x → v < 2 ^ 64 → AreRegisters (slice_set x r v)
set_fits x r v h p = record { full = length-set x r v ∙ h.full; words = All-set (λ (n : ℕ). n < 2 ^ 64) x r v p h.words }

pub put_fits : (c : CoreState) (r v : ℕ) → IsCore c → v < 2 ^ 64 → IsCore (put c r v)
put_fits c r v h p = record {
  x = of_either AreRegisters (nat_eq r 0) c.x (slice_set c.x r v) h.x (set_fits c.x r v h.x p);
  zero = put_x0 c r v ∙ h.zero;
  pc = h.pc;
  csrs = h.csrs;
}

pub plus_fits : (a b : ℕ) → plus a b < 2 ^ 64
plus_fits a b = mod_below (a + b) (2 ^ 64) (lit< tt)

pub later : (pc : ℕ) → IsPlace pc → IsPlace (plus pc 4)
later pc h = record { fits = plus_fits pc 4; aligned = omega (arith, h.aligned) }

-- memory
pub byte_of : (at : ℕ) (bytes : List ℕ) (k : ℕ) → AreBytes bytes → slice_index (drop at bytes) k < 256
byte_of at bytes k h = item_or (λ (n : ℕ). n < 256) (drop at bytes) k 0 (All-drop (λ (n : ℕ). n < 256) at bytes h) (lit< tt)

pub number_below : (n at : ℕ) (bytes : List ℕ) → AreBytes bytes → little_number n (drop at bytes) < 256 ^ n
number_below n at bytes h = little_from-lt 0 n (drop at bytes) (λ k. byte_of at bytes k h)

pub loaded_fits : (width : Width) (signed : Bool) (bytes : List ℕ) (at : ℕ) → AreBytes bytes → loaded width signed bytes at < 2 ^ 64
loaded_fits B signed bytes at h =
    let v = number_at B bytes at in
    let below : v < 2 ^ 8 = number_below 1 at bytes h in
    of_either (λ (n : ℕ). n < 2 ^ 64) signed (sign_extension 8 v) v
    (of_either (λ (n : ℕ). n < 2 ^ 64) (ltb v (2 ^ 7)) v (v + (2 ^ 64 - 2 ^ 8)) (omega (arith, below)) (omega (arith, below))) (omega (arith, below))
loaded_fits H signed bytes at h =
    let v = number_at H bytes at in
    let below : v < 2 ^ 16 = number_below 2 at bytes h in
    of_either (λ (n : ℕ). n < 2 ^ 64) signed (sign_extension 16 v) v
    (of_either (λ (n : ℕ). n < 2 ^ 64) (ltb v (2 ^ 15)) v (v + (2 ^ 64 - 2 ^ 16)) (omega (arith, below)) (omega (arith, below))) (omega (arith, below))
loaded_fits W signed bytes at h =
    let v = number_at W bytes at in
    let below : v < 2 ^ 32 = number_below 4 at bytes h in
    of_either (λ (n : ℕ). n < 2 ^ 64) signed (sign_extension 32 v) v
    (of_either (λ (n : ℕ). n < 2 ^ 64) (ltb v (2 ^ 31)) v (v + (2 ^ 64 - 2 ^ 32)) (omega (arith, below)) (omega (arith, below))) (omega (arith, below))
loaded_fits D signed bytes at h =
    let v = number_at D bytes at in
    let below : v < 2 ^ 64 = number_below 8 at bytes h in
    of_either (λ (n : ℕ). n < 2 ^ 64) signed (sign_extension 64 v) v
    (of_either (λ (n : ℕ). n < 2 ^ 64) (ltb v (2 ^ 63)) v (v + (2 ^ 64 - 2 ^ 64)) (omega (arith, below)) (omega (arith, below))) (omega (arith, below))

pub byte_small : (i n : ℕ) → byte_at i n < 256
byte_small zero n = mod_below n 256 (lit< tt)
byte_small (suc i) n = mod_below (n / 256 ^ suc i) 256 (lit< tt)

pub all_bytes : (i k n : ℕ) → AreBytes (bytes_low_first i k n)
all_bytes i zero n = All-nil (λ (m : ℕ). m < 256)
all_bytes i (suc k) n = All-cons (λ (m : ℕ). m < 256) (byte_at i n) (bytes_low_first (suc i) k n) (byte_small i n) (all_bytes (suc i) k n)

pub stored_fits : (width : Width) (value : ℕ) (bytes : List ℕ) (at : ℕ) → AreBytes bytes → AreBytes (stored width value bytes at)
stored_fits width value bytes at h =
    let is = λ (m : ℕ). m < 256 in
    let count = bytes_of width in
    All-append is (take at bytes) (take count (little_bytes 8 value) ++ drop (at + count) bytes) (All-take is at bytes h)
    (All-append is (take count (little_bytes 8 value)) (drop (at + count) bytes) (All-take is count (little_bytes 8 value) (all_bytes 0 8 value)) (All-drop is (at + count) bytes h))

-- effects
abbrev pub IsOutcome : Outcome → Type 0
IsOutcome (Goes kind pc) = IsPlace pc
IsOutcome (Returns ret) = Unit {0}
IsOutcome (Raises cause value) = (cause < 64) × (value < 2 ^ 64)

pub record IsEffect (e : Effect) : Type 0 where
  pub core : IsCore e.core
  pub bytes : AreBytes e.bytes
  pub outcome : IsOutcome e.outcome

pub raises_fits : (cause value : ℕ) (c : CoreState) (bytes : List ℕ) → IsCore c → AreBytes bytes → cause < 64 → value < 2 ^ 64 → IsEffect (raises cause value c bytes)
raises_fits cause value c bytes h b p q = record { core = h; bytes = b; outcome = (p, q) }

pub goes_fits : (kind : Option Jump) (pc : ℕ) (c : CoreState) (bytes : List ℕ) → IsCore c → AreBytes bytes → IsPlace pc → IsEffect (goes_to kind pc c bytes)
goes_fits kind pc c bytes h b p = record { core = h; bytes = b; outcome = p }

pub gives_fits : (rd v : ℕ) (c : CoreState) (bytes : List ℕ) → IsCore c → AreBytes bytes → v < 2 ^ 64 → IsEffect (gives rd v c bytes)
gives_fits rd v c bytes h b p = record { core = put_fits c rd v h p; bytes = b; outcome = later c.pc h.pc }

pub jump_by : (b : Bool) (kind : Option Jump) (target : ℕ) (c d : CoreState) (bytes : List ℕ) → (b ≡ true → target % 4 ≡ 0) → target < 2 ^ 64
    → IsCore c → IsCore d → AreBytes bytes → IsEffect (cond b (goes_to kind target d bytes) (raises 0 target c bytes))
jump_by true kind target c d bytes aligned p h k b = goes_fits kind target d bytes k b (record { fits = p; aligned = aligned refl })
jump_by false kind target c d bytes aligned p h k b = raises_fits 0 target c bytes h b (lit< tt) p

pub jumps_fits : (kind : Option Jump) (rd target : ℕ) (c : CoreState) (bytes : List ℕ) → target < 2 ^ 64 → IsCore c → AreBytes bytes → IsEffect (jumps kind rd target c bytes)
jumps_fits kind rd target c bytes p h b =
    jump_by (nat_eq (target % 4) 0) kind target c (put c rd (plus c.pc 4)) bytes (eqb-true (target % 4) 0) p h (put_fits c rd (plus c.pc 4) h (plus_fits c.pc 4)) b

pub branches_fits : (taken : Bool) (kind : Option Jump) (target : ℕ) (c : CoreState) (bytes : List ℕ) → target < 2 ^ 64 → IsCore c → AreBytes bytes
    → IsEffect (branches taken kind target c bytes)
branches_fits true kind target c bytes p h b = jump_by (nat_eq (target % 4) 0) kind target c c bytes (eqb-true (target % 4) 0) p h h b
branches_fits false kind target c bytes p h b = goes_fits kind (plus c.pc 4) c bytes h b (later c.pc h.pc)

pub loads_at_fits : (place : Option ℕ) (width : Width) (signed : Bool) (rd address : ℕ) (c : CoreState) (bytes : List ℕ) → address < 2 ^ 64 → IsCore c → AreBytes bytes
    → IsEffect (loads_at place width signed rd address c bytes)
loads_at_fits (Some at) width signed rd address c bytes p h b = gives_fits rd (loaded width signed bytes at) c bytes h b (loaded_fits width signed bytes at b)
loads_at_fits None width signed rd address c bytes p h b = raises_fits 5 address c bytes h b (lit< tt) p

pub loads_fits : (width : Width) (signed : Bool) (rd address : ℕ) (c : CoreState) (bytes : List ℕ) → address < 2 ^ 64 → IsCore c → AreBytes bytes
    → IsEffect (loads width signed rd address c bytes)
loads_fits width signed rd address c bytes p h b =
    let place = place_of (length bytes) address (bytes_of width) in
    of_either IsEffect (nat_eq (address % bytes_of width) 0) (loads_at place width signed rd address c bytes) (raises 4 address c bytes)
    (loads_at_fits place width signed rd address c bytes p h b) (raises_fits 4 address c bytes h b (lit< tt) p)

pub stores_at_fits : (place : Option ℕ) (width : Width) (value address : ℕ) (c : CoreState) (bytes : List ℕ) → address < 2 ^ 64 → IsCore c → AreBytes bytes
    → IsEffect (stores_at place width value address c bytes)
stores_at_fits (Some at) width value address c bytes p h b = goes_fits None (plus c.pc 4) c (stored width value bytes at) h (stored_fits width value bytes at b) (later c.pc h.pc)
stores_at_fits None width value address c bytes p h b = raises_fits 7 address c bytes h b (lit< tt) p

pub stores_fits : (width : Width) (value address : ℕ) (c : CoreState) (bytes : List ℕ) → address < 2 ^ 64 → IsCore c → AreBytes bytes
    → IsEffect (stores width value address c bytes)
stores_fits width value address c bytes p h b =
    let place = place_of (length bytes) address (bytes_of width) in
    of_either IsEffect (nat_eq (address % bytes_of width) 0) (stores_at place width value address c bytes) (raises 6 address c bytes)
    (stores_at_fits place width value address c bytes p h b) (raises_fits 6 address c bytes h b (lit< tt) p)

pub cause_small : (m : Mode) → call_cause m < 64
cause_small modes.M = lit< tt
cause_small modes.S = lit< tt
cause_small modes.U = lit< tt
cause_small modes.Vs = lit< tt
cause_small modes.Vu = lit< tt

pub mret_fits : (m : Mode) (word : ℕ) → word < 2 ^ 64 → IsOutcome (machine_return m word)
mret_fits modes.M word p = tt
mret_fits modes.S word p = (lit< tt, p)
mret_fits modes.U word p = (lit< tt, p)
mret_fits modes.Vs word p = (lit< tt, p)
mret_fits modes.Vu word p = (lit< tt, p)

pub sret_fits : (m : Mode) (word : ℕ) → word < 2 ^ 64 → IsOutcome (supervisor_return m word)
sret_fits modes.M word p = tt
sret_fits modes.S word p = tt
sret_fits modes.U word p = (lit< tt, p)
sret_fits modes.Vs word p = tt
sret_fits modes.Vu word p = (lit< tt, p)

pub effect_fits : (i : Instr) (word : ℕ) (c : CoreState) (bytes : List ℕ) → WordsFit i → word < 2 ^ 64 → IsCore c → AreBytes bytes → IsEffect (effect i word c bytes)
effect_fits (Lui rd imm) word c bytes fits p h b = gives_fits rd imm c bytes h b fits
effect_fits (Auipc rd imm) word c bytes fits p h b = gives_fits rd (plus c.pc imm) c bytes h b (plus_fits c.pc imm)
effect_fits (Jal rd off) word c bytes fits p h b = jumps_fits (jump_of (Jal rd off) false) rd (plus c.pc off) c bytes (plus_fits c.pc off) h b
effect_fits (Jalr rd rs1 off) word c bytes fits p h b =
    jumps_fits (jump_of (Jalr rd rs1 off) false) rd (even (plus (reg c rs1) off)) c bytes (omega (arith, plus_fits (reg c rs1) off)) h b
effect_fits (Branch condition rs1 rs2 off) word c bytes fits p h b =
    let taken = holds condition (reg c rs1) (reg c rs2) in
    branches_fits taken (jump_of (Branch condition rs1 rs2 off) taken) (plus c.pc off) c bytes (plus_fits c.pc off) h b
effect_fits (Load width signed rd rs1 off) word c bytes fits p h b = loads_fits width signed rd (plus (reg c rs1) off) c bytes (plus_fits (reg c rs1) off) h b
effect_fits (Store width rs1 rs2 off) word c bytes fits p h b = stores_fits width (reg c rs2) (plus (reg c rs1) off) c bytes (plus_fits (reg c rs1) off) h b
effect_fits (AluImm op rd rs1 imm) word c bytes fits p h b = gives_fits rd (alu.value op (reg c rs1) imm) c bytes h b (value_fits op (reg c rs1) imm (reg_fits c rs1 h) fits)
effect_fits (Alu op rd rs1 rs2) word c bytes fits p h b =
    gives_fits rd (alu.value op (reg c rs1) (reg c rs2)) c bytes h b (value_fits op (reg c rs1) (reg c rs2) (reg_fits c rs1 h) (reg_fits c rs2 h))
effect_fits (Csr op rd arg csr) word c bytes fits p h b = goes_fits None (plus c.pc 4) c bytes h b (later c.pc h.pc)
effect_fits Fence word c bytes fits p h b = goes_fits None (plus c.pc 4) c bytes h b (later c.pc h.pc)
effect_fits FenceI word c bytes fits p h b = goes_fits None (plus c.pc 4) c bytes h b (later c.pc h.pc)
effect_fits Wfi word c bytes fits p h b = goes_fits None (plus c.pc 4) c bytes h b (later c.pc h.pc)
effect_fits CtrClr word c bytes fits p h b = goes_fits None (plus c.pc 4) c bytes h b (later c.pc h.pc)
effect_fits Ecall word c bytes fits p h b = raises_fits (call_cause c.mode) 0 c bytes h b (cause_small c.mode) (lit< tt)
effect_fits Ebreak word c bytes fits p h b = raises_fits 3 0 c bytes h b (lit< tt) (lit< tt)
effect_fits Mret word c bytes fits p h b = record { core = h; bytes = b; outcome = mret_fits c.mode word p }
effect_fits Sret word c bytes fits p h b = record { core = h; bytes = b; outcome = sret_fits c.mode word p }

-- records of transfers
abbrev pub IsAct : Act → Type 0
IsAct (acts.Push r) = IsPlace r.source × IsPlace r.target
IsAct (acts.Swap r) = IsPlace r.source × IsPlace r.target
IsAct acts.Nothing = Unit {0}
IsAct acts.Pop = Unit {0}
IsAct acts.Freeze = Unit {0}

pub none_place : IsPlace 0
none_place = record { fits = lit< tt; aligned = refl }

pub row_fits : (row : Row) (t : Transfer) → IsPlace t.source → IsPlace t.target → IsAct (act_of row t)
row_fits EmulatedCall t p q = (p, q)
row_fits EmulatedReturn t p q = tt
row_fits EmulatedSwap t p q = (p, q)
row_fits Within t p q = (p, q)
row_fits TrapIn t p q = (none_place, q)
row_fits ReturnOut t p q = (p, none_place)
row_fits TrapOut t p q = (p, none_place)

pub act_by_fits : (o : Option Row) (t : Transfer) → IsPlace t.source → IsPlace t.target → IsAct (act_by o t)
act_by_fits (Some row) t p q = row_fits row t p q
act_by_fits None t p q = tt

pub act_fits : (t : Transfer) (u : UnitState) → IsPlace t.source → IsPlace t.target → IsAct (act_in t u)
act_fits t u p q =
    let row = act_by (row_of (view_of t u.m u.vs)) t in
    of_either IsAct u.frozen acts.Nothing (cond (freezes t u.m u.vs) acts.Freeze row) tt
    (of_either IsAct (freezes t u.m u.vs) acts.Freeze row tt (act_by_fits (row_of (view_of t u.m u.vs)) t p q))

pub code_small : (k : XferType) → code_of k < 16
code_small types.Exception = lit< tt
code_small types.Interrupt = lit< tt
code_small types.TrapReturn = lit< tt
code_small types.NotTaken = lit< tt
code_small types.Taken = lit< tt
code_small types.IndirectCall = lit< tt
code_small types.DirectCall = lit< tt
code_small types.IndirectJump = lit< tt
code_small types.DirectJump = lit< tt
code_small types.Swap = lit< tt
code_small types.Return = lit< tt
code_small types.IndirectLinkJump = lit< tt
code_small types.DirectLinkJump = lit< tt

pub flagged : (address : ℕ) (flag : Bool) → IsPlace address → with_flag address flag < 2 ^ 64
flagged address true p = omega (arith, p.fits, p.aligned)
flagged address false p = p.fits

pub recorded : (r : Record) → IsPlace r.source → IsPlace r.target → IsRecorded (entry_of r)
recorded r p q =
    let one : (r.source + 1) % 2 ≡ 1 = omega (arith, p.aligned) in
    record {
      entry = (flagged r.source true p, flagged r.target r.misp q, code_small r.kind);
      valid = ap (λ (n : ℕ). nat_eq n 1) one;
    }

pub events_fit : (a : Act) → IsAct a → AreEvents (events_by a)
events_fit acts.Nothing h = tt
events_fit (acts.Push r) h = (recorded r h.0 h.1, tt)
events_fit acts.Pop h = (tt, tt)
events_fit (acts.Swap r) h = (recorded r h.0 h.1, tt)
events_fit acts.Freeze h = tt

pub acts_can : (a : Act) (s : Stack) → IsAct a → CanTakeAll s (events_by a)
acts_can acts.Nothing s h = tt
acts_can (acts.Push r) s h = ((recorded r h.0 h.1).valid, tt)
acts_can acts.Pop s h = (tt, tt)
acts_can (acts.Swap r) s h = ((recorded r h.0 h.1).valid, tt)
acts_can acts.Freeze s h = tt

pub carried_fits : (t : Transfer) (c : CoreState) (u : UnitState) → IsPlace t.source → IsPlace t.target → IsCore c → HasControls u → IsStep u (carried t c u)
carried_fits t c u p q h k = record {
  core = h;
  unit = record { m = k.m; vs = k.vs; select = k.select };
  events = events_fit (act_in t u) (act_fits t u p q);
  can = acts_can (act_in t u) u.stack (act_fits t u p q);
}

-- how a step ends
pub trapped_fits : (trap : Trap) (value : ℕ) (c : CoreState) (u : UnitState) → IsSmall trap → value < 2 ^ 64 → IsCore c → HasControls u → IsStep u (trapped trap value c u)
trapped_fits trap value c u s v h k =
    let handler = handler_place c.csrs c.mode trap h.csrs in
    carried_fits (trap_transfer trap c) (trapped trap value c u).core u h.pc handler
    (record { x = h.x; zero = h.zero; pc = handler; csrs = entered_keeps c.csrs c.mode trap c.pc value h.csrs s h.pc.fits h.pc.aligned v }) k

pub returned_fits : (ret : Ret) (c : CoreState) (u : UnitState) → IsCore c → HasControls u → IsStep u (returned ret c u)
returned_fits ret c u h k =
    let back = return_place c.csrs ret h.csrs in
    carried_fits (return_transfer ret c) (returned ret c u).core u h.pc back (record { x = h.x; zero = h.zero; pc = back; csrs = left_keeps c.csrs ret h.csrs }) k

pub at_place : (c : CoreState) (pc : ℕ) → IsCore c → IsPlace pc → IsCore (record c { pc = pc })
at_place c pc h p = record { x = h.x; zero = h.zero; pc = p; csrs = h.csrs }

pub went_fits : (kind : Option Jump) (pc : ℕ) (c : CoreState) (u : UnitState) → IsPlace pc → IsCore c → HasControls u → IsStep u (went kind pc c u)
went_fits None pc c u p h k = record { core = at_place c pc h p; unit = k; events = tt; can = tt }
went_fits (Some kind) pc c u p h k = carried_fits (jump_transfer kind pc c) (record c { pc = pc }) u h.pc p (at_place c pc h p) k

pub concluded_fits : (o : Outcome) (c : CoreState) (u : UnitState) → IsOutcome o → IsCore c → HasControls u → IsStep u (concluded o c u)
concluded_fits (Goes kind pc) c u p h k = went_fits kind pc c u p h k
concluded_fits (Returns ret) c u p h k = returned_fits ret c u h k
concluded_fits (Raises cause value) c u p h k = trapped_fits (Exception cause) value c u p.0 p.1 h k

pub by_effect_fits : (e : Effect) (u : UnitState) → IsEffect e → HasControls u → IsStep u (by_effect e u)
by_effect_fits e u h k = concluded_fits e.outcome e.core u h.outcome h.core k

-- accesses
pub use_fits : (op : CsrOp) (arg : CsrArg) (c : CoreState) → operand arg c < 2 ^ 64 → UseFits (use_of op arg c)
use_fits Write arg c p = p
use_fits Set arg c p = of_either UseFits (is_zero arg) _ _ tt p
use_fits Clears arg c p = of_either UseFits (is_zero arg) _ _ tt p

pub any_events : (e : Option Event) → IfSome e IsEvent → AreEvents (any_event e)
any_events None h = tt
any_events (Some e) h = (h, tt)

pub any_can : (s : Stack) (e : Option Event) → CanTakeAny s e → CanTakeAll s (any_event e)
any_can s None h = tt
any_can s (Some e) h = (h, tt)

pub answered_fits : (r : Result ℕ CsrFault) (a : AccessResult) (rd word : ℕ) (c : CoreState) (u : UnitState) → AnswerFits r → IsAccessed u a → word < 2 ^ 64 → IsCore c → HasControls u
    → IsStep u (answered r a rd word c u)
answered_fits (Ok old) a rd word c u p h w k q =
    let d = put_fits (record c { csrs = a.registers }) rd old (record { x = k.x; zero = k.zero; pc = k.pc; csrs = h.registers }) p in
    record {
      core = record { x = d.x; zero = d.zero; pc = later c.pc k.pc; csrs = d.csrs };
      unit = h.unit.controls;
      events = any_events a.event h.event;
      can = any_can u.stack a.event h.can;
    }
answered_fits (Err Illegal) a rd word c u p h w k q = trapped_fits (Exception 2) word c u (lit< tt) w k q
answered_fits (Err Virtual) a rd word c u p h w k q = trapped_fits (Exception 22) word c u (lit< tt) w k q

pub access_fits : (op : CsrOp) (rd : ℕ) (arg : CsrArg) (csr word : ℕ) (c : CoreState) (u : UnitState) (bytes : List ℕ) → operand arg c < 2 ^ 64 → word < 2 ^ 64
    → IsCore c → IsWholeUnit u → IsStep u (executed (Csr op rd arg csr) word c u bytes)
access_fits op rd arg csr word c u bytes p w h k =
    let a = access_of u c.csrs c.mode csr (use_of op arg c) in
    let is = accessed_keeps u c.csrs c.mode csr (use_of op arg c) k h.csrs (use_fits op arg c p) in
    answered_fits a.answer a rd word c u is.answer is w h k.controls

pub cleared_step : (c : CoreState) (u : UnitState) → IsCore c → HasControls u → IsStep u (record { core = at_next c; unit = u; events = Clear ∷ [] })
cleared_step c u h k = record { core = at_place c (plus c.pc 4) h (later c.pc h.pc); unit = k; events = (tt, tt); can = (tt, tt) }

pub clears_fits : (m : Mode) (word : ℕ) (c : CoreState) (u : UnitState) → word < 2 ^ 64 → IsCore c → HasControls u → IsStep u (clears m word c u)
clears_fits modes.M word c u w h k = cleared_step c u h k
clears_fits modes.S word c u w h k = cleared_step c u h k
clears_fits modes.U word c u w h k = trapped_fits (Exception 2) word c u (lit< tt) w h k
clears_fits modes.Vs word c u w h k = cleared_step c u h k
clears_fits modes.Vu word c u w h k = trapped_fits (Exception 22) word c u (lit< tt) w h k

pub plain_fits : (i : Instr) (word : ℕ) (c : CoreState) (u : UnitState) (bytes : List ℕ) → WordsFit i → word < 2 ^ 64 → IsCore c → IsWholeUnit u → AreBytes bytes
    → IsStep u (by_effect (effect i word c bytes) u)
plain_fits i word c u bytes fits w h k b = by_effect_fits (effect i word c bytes) u (effect_fits i word c bytes fits w h b) k.controls

pub executed_fits : (i : Instr) (word : ℕ) (c : CoreState) (u : UnitState) (bytes : List ℕ) → WordsFit i → word < 2 ^ 64 → IsCore c → IsWholeUnit u → AreBytes bytes
    → IsStep u (executed i word c u bytes)
executed_fits (Csr op rd (Reg r) csr) word c u bytes fits w h k b = access_fits op rd (Reg r) csr word c u bytes (reg_fits c r h) w h k
executed_fits (Csr op rd (Imm n) csr) word c u bytes fits w h k b = access_fits op rd (Imm n) csr word c u bytes fits w h k
executed_fits CtrClr word c u bytes fits w h k b = clears_fits c.mode word c u w h k.controls
executed_fits (Lui rd imm) word c u bytes fits w h k b = plain_fits (Lui rd imm) word c u bytes fits w h k b
executed_fits (Auipc rd imm) word c u bytes fits w h k b = plain_fits (Auipc rd imm) word c u bytes fits w h k b
executed_fits (Jal rd off) word c u bytes fits w h k b = plain_fits (Jal rd off) word c u bytes fits w h k b
executed_fits (Jalr rd rs1 off) word c u bytes fits w h k b = plain_fits (Jalr rd rs1 off) word c u bytes fits w h k b
executed_fits (Branch condition rs1 rs2 off) word c u bytes fits w h k b = plain_fits (Branch condition rs1 rs2 off) word c u bytes fits w h k b
executed_fits (Load width signed rd rs1 off) word c u bytes fits w h k b = plain_fits (Load width signed rd rs1 off) word c u bytes fits w h k b
executed_fits (Store width rs1 rs2 off) word c u bytes fits w h k b = plain_fits (Store width rs1 rs2 off) word c u bytes fits w h k b
executed_fits (AluImm op rd rs1 imm) word c u bytes fits w h k b = plain_fits (AluImm op rd rs1 imm) word c u bytes fits w h k b
executed_fits (Alu op rd rs1 rs2) word c u bytes fits w h k b = plain_fits (Alu op rd rs1 rs2) word c u bytes fits w h k b
executed_fits Ecall word c u bytes fits w h k b = plain_fits Ecall word c u bytes fits w h k b
executed_fits Ebreak word c u bytes fits w h k b = plain_fits Ebreak word c u bytes fits w h k b
executed_fits Mret word c u bytes fits w h k b = plain_fits Mret word c u bytes fits w h k b
executed_fits Sret word c u bytes fits w h k b = plain_fits Sret word c u bytes fits w h k b
executed_fits Fence word c u bytes fits w h k b = plain_fits Fence word c u bytes fits w h k b
executed_fits FenceI word c u bytes fits w h k b = plain_fits FenceI word c u bytes fits w h k b
executed_fits Wfi word c u bytes fits w h k b = plain_fits Wfi word c u bytes fits w h k b

module _ (words : (w : ℕ) → IfSome (instruction_of w) WordsFit) where
  -- up to the step
  pub instruction_fits : (i : Option Instr) (word : ℕ) (s : MachineState) → IfSome i WordsFit → word < 2 ^ 64 → IsState s → IsMade s.unit (by_instruction i word s)
  instruction_fits None word s fits w h = record { step = trapped_fits (Exception 2) word s.core s.unit (lit< tt) w h.core h.unit.controls; bytes = h.bytes }
  instruction_fits (Some i) word s fits w h = record {
    step = executed_fits i word s.core s.unit s.mem fits w h.core h.unit h.bytes;
    bytes = (effect_fits i word s.core s.mem fits w h.core h.bytes).bytes;
  }

  pub fetched_fits : (place : Option ℕ) (bytes : List ℕ) → AreBytes bytes → IfSome (fetched_at place bytes) (λ (n : ℕ). n < 2 ^ 64)
  fetched_fits None bytes b = tt
  fetched_fits (Some at) bytes b = omega (arith, number_below 4 at bytes b)

  pub word_fits : (w : Option ℕ) (s : MachineState) → IfSome w (λ (n : ℕ). n < 2 ^ 64) → IsState s → IsMade s.unit (by_word w s)
  word_fits None s p h = record { step = trapped_fits (Exception 1) s.core.pc s.core s.unit (lit< tt) h.core.pc.fits h.core h.unit.controls; bytes = h.bytes }
  word_fits (Some word) s p h = instruction_fits (instruction_of word) word s (words word) p h

  pub lowered_fits : (i : ℕ) (c : CoreState) → IsCore c → IsCore (lowered i c)
  lowered_fits i c h = record { x = h.x; zero = h.zero; pc = h.pc; csrs = cleared_keeps c.csrs (2 ^ 64 - 1 - 2 ^ i) h.csrs }

  pub interrupt_fits : (i : Option ℕ) (s : MachineState) → IfSome i (λ (n : ℕ). n < 64) → IsState s → IsMade s.unit (by_interrupt i s)
  interrupt_fits (Some i) s p h = record { step = trapped_fits (Interrupt i) 0 (lowered i s.core) s.unit p (lit< tt) (lowered_fits i s.core h.core) h.unit.controls; bytes = h.bytes }
  interrupt_fits None s p h = word_fits (fetched s) s (fetched_fits (place_of (length s.mem) s.core.pc 4) s.mem h.bytes) h

  abbrev pub AllSmall : List ℕ → Type 0
  AllSmall [] = Unit {0}
  AllSmall (n ∷ ns) = (n < 64) × AllSmall ns

  pub first_small : (test : ℕ → Bool) (ns : List ℕ) → AllSmall ns → IfSome (first_of test ns) (λ (n : ℕ). n < 64)
  first_small test [] h = tt
  first_small test (n ∷ ns) h = of_either (λ (o : Option ℕ). IfSome o (λ (n : ℕ). n < 64)) (test n) (Some n) (first_of test ns) h.0 (first_small test ns h.1)

  pub else_small : (a b : Option ℕ) → IfSome a (λ (n : ℕ). n < 64) → IfSome b (λ (n : ℕ). n < 64) → IfSome (or_else a b) (λ (n : ℕ). n < 64)
  else_small (Some n) b p q = p
  else_small None b p q = q

  pub order_small : AllSmall interrupt_order
  order_small = (lit< tt, (lit< tt, (lit< tt, (lit< tt, (lit< tt, (lit< tt, (lit< tt, (lit< tt, (lit< tt, (lit< tt, tt))))))))))

  pub first_for_small : (p : Priv) (from to : Mode) → IfSome (first_for p from to) (λ (n : ℕ). n < 64)
  first_for_small p from to = first_small (λ (i : ℕ). is_candidate p from i && is_same (interrupt_taker p i) to) interrupt_order order_small

  pub picked_small : (p : Priv) (m : Mode) → IfSome (next_interrupt p m) (λ (n : ℕ). n < 64)
  picked_small p m =
      else_small (first_for p m modes.M) (or_else (first_for p m modes.S) (first_for p m modes.Vs)) (first_for_small p m modes.M)
      (else_small (first_for p m modes.S) (first_for p m modes.Vs) (first_for_small p m modes.S) (first_for_small p m modes.Vs))

  pub raised_fits : (pending : ℕ) (s : MachineState) → IsWithin INTERRUPTS pending → IsState s → IsState (raised pending s)
  raised_fits pending s p h = record {
    core = record { x = h.core.x; zero = h.core.zero; pc = h.core.pc; csrs = raised_keeps s.core.csrs pending p h.core.csrs };
    unit = h.unit;
    bytes = h.bytes;
  }

  pub step_fits : (pending : ℕ) (s : MachineState) → IsWithin INTERRUPTS pending → IsState s → IsMade s.unit (step_of pending s)
  step_fits pending s p h =
      let now = raised pending s in
      interrupt_fits (next_interrupt now.core.csrs now.core.mode) now (picked_small now.core.csrs now.core.mode) (raised_fits pending s p h)

  pub fold_keeps : (s : Stack) (es : List Event) → IsBuffer s → AreEvents es → IsBuffer (fold after s es)
  fold_keeps s [] h p = h
  fold_keeps s (e ∷ es) h p = fold_keeps (after s e) es (buffers_stay s e h p.0) p.1

  pub next_keeps : (pending : ℕ) (s : MachineState) → IsWithin INTERRUPTS pending → IsState s → IsState (next pending s)
  next_keeps pending s p h =
      let is = step_fits pending s p h in
      let m = step_of pending s in
      record {
        core = is.step.core;
        unit = with_stack m.step.unit (fold after s.unit.stack m.step.events) is.step.unit (fold_keeps s.unit.stack m.step.events h.unit.buffer is.step.events);
        bytes = is.bytes;
      }

  -- runs
  pub fresh_is : IsPriv fresh_registers
  fresh_is = record {
    status = record { kept = refl; known = λ e. absurd (omega (arith, e)) };
    words = All-from_recursion IsKept (kept fresh_registers) (refl, (refl, (refl, (refl, (refl, (refl, (refl, (refl, (refl, (refl, (refl, (refl, (refl, (refl, (refl, (refl, (refl, (refl, (refl, (refl, (refl, (refl, (refl, (refl, (refl, (refl, (refl, (refl, tt))))))))))))))))))))))))))));
  }

  pub first_is : (t : Task) → IsTask t → IsState (lones.first_state t)
  first_is t h =
      let u = first_unit t in
      record {
        core = record {
          x = record { full = refl; words = All-replicate (λ (n : ℕ). n < 2 ^ 64) 32 0 (lit< tt) };
          zero = refl;
          pc = record { fits = lit< tt; aligned = refl };
          csrs = fresh_is;
        };
        unit = record {
          controls = u.controls;
          buffer = record { stack = u.stack; slots = All-replicate IsEntry (entries_of t.depth) zero_entry zero_is };
        };
        bytes = All-append (λ (n : ℕ). n < 256) t.image (replicate (t.mem - length t.image) 0) h.image (All-replicate (λ (n : ℕ). n < 256) (t.mem - length t.image) 0 (lit< tt));
      }

  pub lone_keeps : (t : Task) (n : ℕ) → IsTask t → IsState (lones.lone_run t n).state
  lone_keeps t zero h = first_is t h
  lone_keeps t (suc n) h = next_keeps (causes t.irqs n) (lones.lone_run t n).state (causes_within t.irqs n h.irqs) (lone_keeps t n h)

  pub events_append : (a b : List Event) → AreEvents a → AreEvents b → AreEvents (a ++ b)
  events_append [] b p q = q
  events_append (e ∷ es) b p q = (p.0, events_append es b p.1 q)

  pub history_is : (t : Task) (n : ℕ) → IsTask t → AreEvents (lones.lone_run t n).history
  history_is t zero h = (tt, tt)
  history_is t (suc n) h =
      let before = lones.lone_run t n in
      events_append before.history (events_of (causes t.irqs n) before.state) (history_is t n h)
      (step_fits (causes t.irqs n) before.state (causes_within t.irqs n h.irqs) (lone_keeps t n h)).step.events

  pub steps_keep : StepsKeep
  steps_keep irqs before zero s are is = is
  steps_keep irqs before (suc n) s are is =
      next_keeps (causes irqs (before + n)) (lones.after_steps irqs before n s) (causes_within irqs (before + n) are)
      (steps_keep irqs before n s are is)

  pub can_append : (s : Stack) (a b : List Event) → CanTakeAll s a → CanTakeAll (fold after s a) b → CanTakeAll s (a ++ b)
  can_append s [] b p q = q
  can_append s (e ∷ es) b p q = (p.0, can_append (after s e) es b p.1 q)

  pub can_replay : (t : Task) (n : ℕ) → IsTask t → CanReplay t (lones.lone_run t n).history
  can_replay t zero h = record { later = []; is = refl; can = tt }
  can_replay t (suc n) h =
      let before = lones.lone_run t n in
      let past = can_replay t n h in
      let events = events_of (causes t.irqs n) before.state in
      let stack : before.state.unit.stack ≡ fold after (empty t.depth) past.later = (lone_follows t n).stack ∙ ap stack_of past.is in
      record {
        later = past.later ++ events;
        is = ap (λ (es : List Event). es ++ events) past.is;
        can = can_append (empty t.depth) past.later events past.can
            (subst (λ (s : Stack). CanTakeAll s events) stack (step_fits (causes t.irqs n) before.state (causes_within t.irqs n h.irqs) (lone_keeps t n h)).step.can);
      }
