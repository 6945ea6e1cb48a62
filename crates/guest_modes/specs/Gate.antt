-- Which register an access reaches, by mode (Privileged Architecture, "CSR Address Mapping Conventions",
-- "Hypervisor and Virtual Supervisor CSRs"; Control Transfer Records 1.0 on sctrdepth).
use Rattle.std.specs.Prelude.{ℕ, ◌+◌, ◌/◌, ◌%◌, ◌^◌, Bool, ◌&&◌, not, cond, nat_eq, Result, Ok, Err}
use Rattle.ctr_csrs.specs.declared.mode.Mode.{Mode}
use Rattle.ctr_csrs.specs.declared.mode.Mode.TheVariants.{M, S, U, Vs, Vu}
use Rattle.guest_modes.specs.declared.gating.CsrFault.{CsrFault}
use Rattle.guest_modes.specs.declared.gating.CsrFault.TheVariants.{Illegal, Virtual}
use Rattle.guest_modes.specs.Numbers.{is_there}

-- the lowest privilege that reaches a number, bits 9:8: 1 supervisor, 2 hypervisor and VS, 3 machine
abbrev pub level_of : ℕ → ℕ
level_of number = number / 2 ^ 8 % 4

-- numbers with bits 11:10 set are read-only
abbrev pub is_read_only : ℕ → Bool
is_read_only number = nat_eq (number / 2 ^ 10 % 4) 3

-- registers of M are illegal below it, and others go as said
abbrev pub below_machine : ℕ → Result ℕ CsrFault → Result ℕ CsrFault
below_machine number other = cond (nat_eq (level_of number) 3) (Err Illegal) other

-- what VS reaches in the place of a supervisor register: the VS register with the number 0x100 above, but for
-- sctrstatus, which is one for both, and sctrdepth, which is the hypervisor's
abbrev pub from_guest : ℕ → Result ℕ CsrFault
from_guest number = cond (nat_eq number 0x15F) (Err Virtual) (cond (nat_eq number 0x14F) (Ok number) (Ok (number + 0x100)))

-- what a register that is there is reached as from each mode
abbrev pub reached : Mode → ℕ → Result ℕ CsrFault
reached M number = Ok number
reached S number = below_machine number (Ok number)
reached U number = Err Illegal
reached Vs number = below_machine number (cond (nat_eq (level_of number) 1) (from_guest number) (Err Virtual))
reached Vu number = below_machine number (Err Virtual)

-- the number that an access reaches; one to a number that isn't there, and a write of a read-only one, is illegal
abbrev pub gate_answer : Mode → ℕ → Bool → Result ℕ CsrFault
gate_answer mode number write = cond (is_there number && not (write && is_read_only number)) (reached mode number) (Err Illegal)
