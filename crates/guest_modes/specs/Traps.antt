-- Which mode takes a trap (Privileged Architecture, "Machine Trap Delegation Registers", "Hypervisor Trap Delegation
-- Registers"), and what is written of it.
use Rattle.std.specs.Prelude.{ℕ, ◌+◌, ◌^◌, Bool, true, false, ◌||◌, cond, nat_eq, nat_lt, IsTrue, List, [], ◌∷◌}
use Rattle.ctr_csrs.specs.declared.mode.Mode.{Mode}
use Rattle.ctr_csrs.specs.declared.mode.Mode.TheVariants.{M, S, U, Vs, Vu}
use Rattle.ctr_csrs.specs.TrapEnables.{is_pair}
use Rattle.guest_modes.specs.declared.causes.TheConstants.{LOCAL_COUNTER_OVERFLOW, VIRTUAL_INSTRUCTION}
use Rattle.guest_modes.specs.declared.registers.Priv.{Priv}
use Rattle.guest_modes.specs.declared.targets.Trap.{Trap}
use Rattle.guest_modes.specs.declared.targets.Trap.TheVariants.{Exception, Interrupt}
use Rattle.guest_modes.specs.Registers.{delegated}
use Rattle.guest_modes.specs.Numbers.{is_in}
use Rattle.guest_modes.specs.Words.{is_on}

-- the interrupts, from the one that is taken first to the one that is taken last where one mode takes them
abbrev pub interrupt_order : List ℕ
interrupt_order = 11 ∷ 3 ∷ 7 ∷ 9 ∷ 1 ∷ 5 ∷ 10 ∷ 2 ∷ 6 ∷ LOCAL_COUNTER_OVERFLOW ∷ []

-- the exceptions 0 to 11 and 22, and the interrupts
abbrev pub is_cause : Trap → Bool
is_cause (Exception c) = nat_lt c 12 || nat_eq c VIRTUAL_INSTRUCTION
is_cause (Interrupt i) = is_in i interrupt_order

-- an exception that M delegates is taken by S, or by VS where it comes from a guest and the hypervisor delegates it too;
-- M keeps its own
abbrev pub exception_delegated : Priv → ℕ → Mode → Mode
exception_delegated p c M = M
exception_delegated p c S = S
exception_delegated p c U = S
exception_delegated p c Vs = cond (is_on p.hedeleg c) Vs S
exception_delegated p c Vu = cond (is_on p.hedeleg c) Vs S

-- an interrupt is taken by M where M doesn't delegate it, by VS where the hypervisor delegates it too, else by S
abbrev pub interrupt_taker : Priv → ℕ → Mode
interrupt_taker p i = cond (is_on (delegated p) i) (cond (is_on p.hideleg i) Vs S) M

-- the mode that takes a trap from a mode; it doesn't matter where an interrupt comes from
abbrev pub target_of : Priv → Mode → Trap → Mode
target_of p m (Exception c) = cond (is_on p.medeleg c) (exception_delegated p c m) M
target_of p m (Interrupt i) = interrupt_taker p i

-- traps are taken in M, S and VS
abbrev pub IsTaker : Mode → Type 0
IsTaker M = Unit {0}
IsTaker S = Unit {0}
IsTaker U = ⊥
IsTaker Vs = Unit {0}
IsTaker Vu = ⊥

abbrev pub is_same : Mode → Mode → Bool
is_same M M = true
is_same S S = true
is_same U U = true
is_same Vs Vs = true
is_same Vu Vu = true
is_same _ _ = false

-- a trap goes to the mode that it comes from, or along a pair of modes of the table of traps
abbrev pub is_trap_between : Mode → Mode → Bool
is_trap_between from to = is_same from to || is_pair from to

-- so does every exception; an interrupt that would go elsewhere isn't taken
abbrev pub ExceptionIsBetween : Mode → Trap → Mode → Type 0
ExceptionIsBetween from (Exception c) to = IsTrue (is_trap_between from to)
ExceptionIsBetween from (Interrupt i) to = Unit {0}

-- the number that VS sees of an interrupt: those of VS go by the numbers of S
abbrev pub guest_number : ℕ → ℕ
guest_number i = cond (nat_eq i 2) 1 (cond (nat_eq i 6) 5 (cond (nat_eq i 10) 9 i))

-- a trap as the mode that takes it sees it
abbrev pub as_seen : Mode → Trap → Trap
as_seen m (Exception c) = Exception c
as_seen M (Interrupt i) = Interrupt i
as_seen S (Interrupt i) = Interrupt i
as_seen U (Interrupt i) = Interrupt i
as_seen Vs (Interrupt i) = Interrupt (guest_number i)
as_seen Vu (Interrupt i) = Interrupt i

-- what mcause, scause or vscause holds: bit 63 is set for an interrupt
abbrev pub cause_word : Trap → ℕ
cause_word (Exception c) = c
cause_word (Interrupt i) = 2 ^ 63 + i
