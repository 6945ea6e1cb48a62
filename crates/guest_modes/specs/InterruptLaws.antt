-- Which interrupts and exceptions the registers of traps have bits for, by what each reads as after
-- all ones were written to it (Privileged Architecture, "Machine Interrupt Registers", "Machine Trap
-- Delegation Registers" and "Hypervisor Trap Delegation Registers").
use Rattle.std.specs.Prelude.{ℕ, ◌≡◌, ◌+◌, ◌-◌, ◌^◌, ◌&&◌, not, nat_eq, nat_lt, IsTrue, List, [], ◌∷◌}
use Rattle.guest_modes.specs.declared.causes.TheConstants.{INTERRUPTS, ENVIRONMENT_CALL_FROM_M}
use Rattle.guest_modes.specs.declared.registers.Priv.{Priv}
use Rattle.guest_modes.specs.declared.targets.Trap.TheVariants.{Exception, Interrupt}
use Rattle.guest_modes.specs.Numbers.{is_in}
use Rattle.guest_modes.specs.Registers.{after_csr_write, read_of}
use Rattle.guest_modes.specs.Traps.{interrupt_order, is_cause}
use Rattle.guest_modes.specs.Words.{IsWithin, is_on}

-- the word with these bits
abbrev pub bits_of : List ℕ → ℕ
bits_of [] = 0
bits_of (place ∷ places) = 2 ^ place + bits_of places

-- what a register reads as after all ones were written to it
abbrev pub after_ones : ℕ → Priv → ℕ
after_ones number p = read_of number (after_csr_write number (2 ^ 64 - 1) p)

-- mie takes a bit for each interrupt and no other, and these are the bits of INTERRUPTS
pub record TakesInterrupts (p : Priv) : Type 0 where
  pub word : after_ones 0x304 p ≡ bits_of interrupt_order
  pub mask : INTERRUPTS ≡ bits_of interrupt_order
  pub bits : (i : ℕ) → is_on (after_ones 0x304 p) i ≡ is_in i interrupt_order

abbrev pub MaskHasInterrupts : Type 0
MaskHasInterrupts = (p : Priv) → TakesInterrupts p

-- so the word of one interrupt lies within the mask
abbrev pub InterruptsWithin : Type 0
InterruptsWithin = (i : ℕ) → IsTrue (is_cause (Interrupt i)) → IsWithin INTERRUPTS (2 ^ i)

-- mideleg takes the interrupts of S and the counter overflow, and reads 1 for those of VS; hideleg
-- takes those of VS and the counter overflow
pub record DelegatesInterruptsOf (p : Priv) : Type 0 where
  pub machine : (i : ℕ) →
      is_on (after_ones 0x303 p) i ≡ is_in i (1 ∷ 2 ∷ 5 ∷ 6 ∷ 9 ∷ 10 ∷ 13 ∷ [])
  pub hypervisor : (i : ℕ) → is_on (after_ones 0x603 p) i ≡ is_in i (2 ∷ 6 ∷ 10 ∷ 13 ∷ [])

abbrev pub DelegatesInterrupts : Type 0
DelegatesInterrupts = (p : Priv) → DelegatesInterruptsOf p

-- medeleg takes a bit for each exception but a call from M; hedeleg takes those from 0 to 8, which
-- end with a call from U or VU
pub record DelegatesExceptionsOf (p : Priv) : Type 0 where
  pub machine : (c : ℕ) → is_on (after_ones 0x302 p) c
      ≡ (is_cause (Exception c) && not (nat_eq c ENVIRONMENT_CALL_FROM_M))
  pub hypervisor : (c : ℕ) → is_on (after_ones 0x602 p) c ≡ nat_lt c 9

abbrev pub DelegatesExceptions : Type 0
DelegatesExceptions = (p : Priv) → DelegatesExceptionsOf p
