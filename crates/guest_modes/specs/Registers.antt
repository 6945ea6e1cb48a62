-- The registers of a hart with the hypervisor extension that its software reads and writes by number (Privileged
-- Architecture, "Machine-Level ISA", "Supervisor-Level ISA" and "Hypervisor Extension"): a row for each number.
use Rattle.std.specs.Prelude.{ℕ, ◌*◌, ◌/◌, cond, nat_eq, List, [], ◌∷◌, bit_and, bit_or}
use Rattle.ctr_bits.specs.Mask.{with_masked}
use Rattle.guest_modes.specs.declared.causes.TheConstants.{INTERRUPTS}
use Rattle.guest_modes.specs.declared.registers.Priv.{Priv}
use Rattle.guest_modes.specs.Words.{status_written}

-- a register by number: what it reads as, and the registers after a write of a value to it
pub record Row : Type 0 where
  pub number : ℕ
  pub reads : Priv → ℕ
  pub writes : Priv → ℕ → Priv

abbrev pub row : ℕ → (Priv → ℕ) → (Priv → ℕ → Priv) → Row
row number reads writes = record { number = number; reads = reads; writes = writes }

-- a register that reads as this value, whatever is written to it
abbrev pub fixed : ℕ → ℕ → Row
fixed number value = row number (λ p. value) (λ p v. p)

-- mideleg as it reads: the interrupts of VS are always delegated from M
abbrev pub delegated : Priv → ℕ
delegated p = bit_or p.mideleg 0x444

-- the interrupts that VS sees, at their places in mip and mie
abbrev pub shown : Priv → ℕ
shown p = bit_or (bit_and p.hideleg 0x444) (bit_and (bit_and p.mideleg p.hideleg) 0x2000)

-- bits 2, 6 and 10 moved down by one place, bit 13 where it is; and back
abbrev pub lowered : ℕ → ℕ
lowered word = bit_or (bit_and word 0x444 / 2) (bit_and word 0x2000)

abbrev pub lifted : ℕ → ℕ
lifted word = bit_or (bit_and word 0x222 * 2) (bit_and word 0x2000)

abbrev pub machine_registers : List Row
machine_registers =
    row 0x300 (λ p. bit_or p.mstatus 0xA00000000) (λ p v. record p { mstatus = status_written p.mstatus v })
    ∷ fixed 0x301 0x8000000000141180
    ∷ row 0x302 (λ p. p.medeleg) (λ p v. record p { medeleg = bit_and v 0x4007FF })
    ∷ row 0x303 (λ p. delegated p) (λ p v. record p { mideleg = bit_and v 0x2222 })
    ∷ row 0x304 (λ p. p.mie) (λ p v. record p { mie = bit_and v INTERRUPTS })
    ∷ row 0x305 (λ p. p.mtvec) (λ p v. record p { mtvec = bit_and v 0xFFFFFFFFFFFFFFFD })
    ∷ row 0x340 (λ p. p.mscratch) (λ p v. record p { mscratch = v })
    ∷ row 0x341 (λ p. p.mepc) (λ p v. record p { mepc = bit_and v 0xFFFFFFFFFFFFFFFC })
    ∷ row 0x342 (λ p. p.mcause) (λ p v. record p { mcause = v })
    ∷ row 0x343 (λ p. p.mtval) (λ p v. record p { mtval = v })
    ∷ row 0x344 (λ p. p.mip) (λ p v. record p { mip = with_masked 0x2226 p.mip v })
    ∷ row 0x34A (λ p. p.mtinst) (λ p v. record p { mtinst = v })
    ∷ row 0x34B (λ p. p.mtval2) (λ p v. record p { mtval2 = v })
    ∷ fixed 0xF11 0
    ∷ fixed 0xF12 0
    ∷ fixed 0xF13 0
    ∷ fixed 0xF14 0
    ∷ fixed 0xF15 0
    ∷ []

abbrev pub supervisor_registers : List Row
supervisor_registers =
    row 0x100 (λ p. bit_or (bit_and p.mstatus 0x122) 0x200000000) (λ p v. record p { mstatus = with_masked 0x122 p.mstatus v })
    ∷ row 0x104 (λ p. bit_and p.mie (bit_and p.mideleg 0x2222)) (λ p v. record p { mie = with_masked (bit_and p.mideleg 0x2222) p.mie v })
    ∷ row 0x144 (λ p. bit_and p.mip (bit_and p.mideleg 0x2222)) (λ p v. record p { mip = with_masked (bit_and p.mideleg 0x2002) p.mip v })
    ∷ row 0x105 (λ p. p.stvec) (λ p v. record p { stvec = bit_and v 0xFFFFFFFFFFFFFFFD })
    ∷ row 0x140 (λ p. p.sscratch) (λ p v. record p { sscratch = v })
    ∷ row 0x141 (λ p. p.sepc) (λ p v. record p { sepc = bit_and v 0xFFFFFFFFFFFFFFFC })
    ∷ row 0x142 (λ p. p.scause) (λ p v. record p { scause = v })
    ∷ row 0x143 (λ p. p.stval) (λ p v. record p { stval = v })
    ∷ fixed 0x180 0
    ∷ []

abbrev pub hypervisor_registers : List Row
hypervisor_registers =
    row 0x600 (λ p. bit_or p.hstatus 0x200000000) (λ p v. record p { hstatus = bit_and v 0x180 })
    ∷ row 0x602 (λ p. p.hedeleg) (λ p v. record p { hedeleg = bit_and v 0x1FF })
    ∷ row 0x603 (λ p. p.hideleg) (λ p v. record p { hideleg = bit_and v 0x2444 })
    ∷ row 0x604 (λ p. bit_and p.mie 0x444) (λ p v. record p { mie = with_masked 0x444 p.mie v })
    ∷ row 0x644 (λ p. bit_and p.mip 0x444) (λ p v. record p { mip = with_masked 0x4 p.mip v })
    ∷ row 0x645 (λ p. bit_and p.mip 0x444) (λ p v. record p { mip = with_masked 0x444 p.mip v })
    ∷ row 0x643 (λ p. p.htval) (λ p v. record p { htval = v })
    ∷ row 0x64A (λ p. p.htinst) (λ p v. record p { htinst = v })
    ∷ fixed 0x680 0
    ∷ []

abbrev pub virtual_registers : List Row
virtual_registers =
    row 0x200 (λ p. bit_or p.vsstatus 0x200000000) (λ p v. record p { vsstatus = bit_and v 0x122 })
    ∷ row 0x204 (λ p. lowered (bit_and p.mie (shown p))) (λ p v. record p { mie = with_masked (shown p) p.mie (lifted v) })
    ∷ row 0x244 (λ p. lowered (bit_and p.mip (shown p))) (λ p v. record p { mip = with_masked (bit_and (shown p) 0x2004) p.mip (lifted v) })
    ∷ row 0x205 (λ p. p.vstvec) (λ p v. record p { vstvec = bit_and v 0xFFFFFFFFFFFFFFFD })
    ∷ row 0x240 (λ p. p.vsscratch) (λ p v. record p { vsscratch = v })
    ∷ row 0x241 (λ p. p.vsepc) (λ p v. record p { vsepc = bit_and v 0xFFFFFFFFFFFFFFFC })
    ∷ row 0x242 (λ p. p.vscause) (λ p v. record p { vscause = v })
    ∷ row 0x243 (λ p. p.vstval) (λ p v. record p { vstval = v })
    ∷ fixed 0x280 0
    ∷ []

-- the row of a number in a list of rows, or what stands for numbers that have none
abbrev pub row_in : List Row → ℕ → Row → Row
row_in [] number other = other
row_in (r ∷ rs) number other = cond (nat_eq r.number number) r (row_in rs number other)

-- the row of a number; a number that no register has reads 0, and a write of it changes nothing
abbrev pub row_of : ℕ → Row
row_of number =
    row_in machine_registers number
    (row_in supervisor_registers number (row_in hypervisor_registers number (row_in virtual_registers number (fixed number 0))))

abbrev pub read_of : ℕ → Priv → ℕ
read_of number p = (row_of number).reads p

abbrev pub after_csr_write : ℕ → ℕ → Priv → Priv
after_csr_write number value p = (row_of number).writes p value
