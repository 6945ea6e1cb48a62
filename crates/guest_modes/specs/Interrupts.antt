-- Which interrupt is taken (Privileged Architecture, "Machine Interrupt Registers", "Hypervisor Interrupt Registers").
use Rattle.std.specs.Prelude.{◌≡◌, ℕ, ◌+◌, ◌*◌, ◌<◌, Bool, true, false, ◌&&◌, cond, nat_eq, IsTrue, Option, Some, None, List, [], ◌∷◌}
use Rattle.ctr_csrs.specs.declared.mode.Mode.{Mode}
use Rattle.ctr_csrs.specs.declared.mode.Mode.TheVariants.{M, S, U, Vs, Vu}
use Rattle.guest_modes.specs.declared.registers.Priv.{Priv}
use Rattle.guest_modes.specs.Numbers.{is_in}
use Rattle.guest_modes.specs.Traps.{interrupt_taker, is_same, interrupt_order}
use Rattle.guest_modes.specs.Words.{is_on}

-- whether interrupts that a mode takes are enabled while the hart runs in another: those of a higher mode always are,
-- those of the same mode by its own enable bit, those of a lower mode never
abbrev pub allows : Priv → Mode → Mode → Bool
allows p M M = is_on p.mstatus 3
allows p M S = true
allows p M U = true
allows p M Vs = true
allows p M Vu = true
allows p S M = false
allows p S S = is_on p.mstatus 1
allows p S U = true
allows p S Vs = true
allows p S Vu = true
allows p Vs M = false
allows p Vs S = false
allows p Vs U = false
allows p Vs Vs = is_on p.vsstatus 1
allows p Vs Vu = true
allows p U from = false
allows p Vu from = false

-- whether the interrupt is pending and enabled, and the mode that would take it lets it come
abbrev pub is_candidate : Priv → Mode → ℕ → Bool
is_candidate p from i = is_on p.mip i && (is_on p.mie i && allows p (interrupt_taker p i) from)

-- the first of some numbers that passes a test
abbrev pub first_of : (ℕ → Bool) → List ℕ → Option ℕ
first_of test [] = None
first_of test (n ∷ ns) = cond (test n) (Some n) (first_of test ns)

abbrev pub or_else : Option ℕ → Option ℕ → Option ℕ
or_else (Some n) other = Some n
or_else None other = other

-- the first candidate among those that a mode takes
abbrev pub first_for : Priv → Mode → Mode → Option ℕ
first_for p from to = first_of (λ i. is_candidate p from i && is_same (interrupt_taker p i) to) interrupt_order

-- the interrupt that is taken: one that M takes before one that S takes, and that before one that VS takes
abbrev pub next_interrupt : Priv → Mode → Option ℕ
next_interrupt p from = or_else (first_for p from M) (or_else (first_for p from S) (first_for p from Vs))

-- the modes that take interrupts, in this order
abbrev pub rank : Mode → ℕ
rank M = 0
rank S = 1
rank Vs = 2
rank U = 3
rank Vu = 3

-- where a number stands in a list
abbrev pub place_in : ℕ → List ℕ → ℕ
place_in n [] = 0
place_in n (m ∷ ms) = cond (nat_eq m n) 0 (1 + place_in n ms)

-- how late an interrupt is taken: by the mode that takes it, then by the order of the interrupts
abbrev pub lateness : Priv → ℕ → ℕ
lateness p i = rank (interrupt_taker p i) * 10 + place_in i interrupt_order

-- an interrupt that can be taken now
abbrev pub IsCandidate : Priv → Mode → ℕ → Type 0
IsCandidate p from i = IsTrue (is_in i interrupt_order && is_candidate p from i)

-- the interrupt is a candidate, and every other one comes later
pub record IsFirst (p : Priv) (from : Mode) (i : ℕ) : Type 0 where
  pub candidate : IsCandidate p from i
  pub earliest : (j : ℕ) → IsCandidate p from j → (j ≡ i → ⊥) → lateness p i < lateness p j

-- there is no interrupt that can be taken now
abbrev pub NoCandidate : Priv → Mode → Type 0
NoCandidate p from = (i : ℕ) → IsCandidate p from i → ⊥
