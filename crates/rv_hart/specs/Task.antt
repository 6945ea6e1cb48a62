-- A task: its image and memory, the depth and controls that its records begin with, and its interrupts.
use Rattle.std.specs.Prelude.{ℕ, ◌^◌, IsTrue, List, [], ◌∷◌, cond, nat_eq, bit_or}
use Rattle.ctr_csrs.specs.declared.depth.Depth.{Depth}
use Rattle.guest_modes.specs.declared.targets.Trap.TheVariants.{Interrupt}
use Rattle.guest_modes.specs.Traps.{is_cause}

-- an interrupt that becomes pending when the task has made so many steps of its own
pub record Irq : Type 0 where
  pub step : ℕ
  pub cause : ℕ

-- the numbers of a task: `mem` is the size of its memory in bytes, `mctrctl` and `vsctrctl` are what is written to these
-- registers before the first step
pub record Task : Type 0 where
  pub image : List ℕ
  pub mem : ℕ
  pub depth : Depth
  pub mctrctl : ℕ
  pub vsctrctl : ℕ
  pub irqs : List Irq

-- the interrupts that become pending at the step after so many steps of the task: bit i is interrupt i
abbrev pub causes : List Irq → ℕ → ℕ
causes [] n = 0
causes (q ∷ qs) n = cond (nat_eq q.step n) (bit_or (2 ^ q.cause) (causes qs n)) (causes qs n)

-- all of them have the number of an interrupt
abbrev pub AreInterrupts : List Irq → Type 0
AreInterrupts [] = Unit {0}
AreInterrupts (q ∷ qs) = IsTrue (is_cause (Interrupt q.cause)) × AreInterrupts qs
