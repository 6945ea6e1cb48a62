-- What the registers of a hart keep to, whatever its software does: mstatus is legal, and each
-- other register has no bit outside of its mask (Privileged Architecture, the register figures of
-- each). That writes, interrupts, traps and returns keep these facts is the law of this file.
use Rattle.std.specs.Prelude.{ℕ, ◌≡◌, ◌%◌, ◌^◌, ◌<◌, List, [], ◌∷◌, bit_and, bit_or}
use Rattle.std.specs.List.{All}
use Rattle.ctr_csrs.specs.declared.mode.Mode.{Mode}
use Rattle.guest_modes.specs.declared.causes.TheConstants.{INTERRUPTS}
use Rattle.guest_modes.specs.declared.registers.Priv.{Priv}
use Rattle.guest_modes.specs.declared.returning.Ret.{Ret}
use Rattle.guest_modes.specs.declared.targets.Trap.{Trap}
use Rattle.guest_modes.specs.declared.targets.Trap.TheVariants.{Exception, Interrupt}
use Rattle.guest_modes.specs.Entry.{after_trap, handler_of}
use Rattle.guest_modes.specs.Registers.{read_of, after_csr_write}
use Rattle.guest_modes.specs.Returns.{after_return, pc_after}
use Rattle.guest_modes.specs.Words.{IsWithin, IsStatus}

-- a word and the mask that it keeps
pub record Kept : Type 0 where
  pub mask : ℕ
  pub word : ℕ

abbrev pub keeps : ℕ → ℕ → Kept
keeps mask word = record { mask = mask; word = word }

-- each register but mstatus with its mask, in the order of Priv
abbrev pub kept : Priv → List Kept
kept p =
    keeps 0x4007FF p.medeleg
    ∷ keeps 0x2222 p.mideleg
    ∷ keeps INTERRUPTS p.mie
    ∷ keeps INTERRUPTS p.mip
    ∷ keeps 0xFFFFFFFFFFFFFFFD p.mtvec
    ∷ keeps 0xFFFFFFFFFFFFFFFF p.mscratch
    ∷ keeps 0xFFFFFFFFFFFFFFFC p.mepc
    ∷ keeps 0xFFFFFFFFFFFFFFFF p.mcause
    ∷ keeps 0xFFFFFFFFFFFFFFFF p.mtval
    ∷ keeps 0xFFFFFFFFFFFFFFFF p.mtinst
    ∷ keeps 0xFFFFFFFFFFFFFFFF p.mtval2
    ∷ keeps 0xFFFFFFFFFFFFFFFD p.stvec
    ∷ keeps 0xFFFFFFFFFFFFFFFF p.sscratch
    ∷ keeps 0xFFFFFFFFFFFFFFFC p.sepc
    ∷ keeps 0xFFFFFFFFFFFFFFFF p.scause
    ∷ keeps 0xFFFFFFFFFFFFFFFF p.stval
    ∷ keeps 0x180 p.hstatus
    ∷ keeps 0x1FF p.hedeleg
    ∷ keeps 0x2444 p.hideleg
    ∷ keeps 0xFFFFFFFFFFFFFFFF p.htval
    ∷ keeps 0xFFFFFFFFFFFFFFFF p.htinst
    ∷ keeps 0x122 p.vsstatus
    ∷ keeps 0xFFFFFFFFFFFFFFFD p.vstvec
    ∷ keeps 0xFFFFFFFFFFFFFFFF p.vsscratch
    ∷ keeps 0xFFFFFFFFFFFFFFFC p.vsepc
    ∷ keeps 0xFFFFFFFFFFFFFFFF p.vscause
    ∷ keeps 0xFFFFFFFFFFFFFFFF p.vstval
    ∷ keeps 0xFFF p.vsiselect
    ∷ []

abbrev pub IsKept : Kept → Type 0
IsKept k = IsWithin k.mask k.word

pub record IsPriv (p : Priv) : Type 0 where
  pub status : IsStatus p.mstatus
  pub words : All IsKept (kept p)

-- an address of an instruction
pub record IsPlace (pc : ℕ) : Type 0 where
  pub fits : pc < 2 ^ 64
  pub aligned : pc % 4 ≡ 0

-- the number of the trap is a bit of the delegation registers
abbrev pub IsSmall : Trap → Type 0
IsSmall (Exception c) = c < 64
IsSmall (Interrupt i) = i < 64

-- a write by number, and what is read by number
abbrev pub WrittenKeeps : Type 0
WrittenKeeps = (number v : ℕ) (p : Priv) → v < 2 ^ 64 → IsPriv p → IsPriv (after_csr_write number v p)

abbrev pub ReadFits : Type 0
ReadFits = (number : ℕ) (p : Priv) → IsPriv p → read_of number p < 2 ^ 64

-- interrupts that become pending, and pending ones that are cleared
abbrev pub RaisedKeeps : Type 0
RaisedKeeps =
    (p : Priv) (pending : ℕ) → IsWithin INTERRUPTS pending → IsPriv p
    → IsPriv (record p { mip = bit_or p.mip pending })

abbrev pub ClearedKeeps : Type 0
ClearedKeeps = (p : Priv) (part : ℕ) → IsPriv p → IsPriv (record p { mip = bit_and p.mip part })

-- a trap, and the address of its handler
abbrev pub EnteredKeeps : Type 0
EnteredKeeps =
    (p : Priv) (from : Mode) (t : Trap) (pc value : ℕ) → IsPriv p → IsSmall t → pc < 2 ^ 64
    → pc % 4 ≡ 0 → value < 2 ^ 64
    → IsPriv (after_trap p from t pc value)

abbrev pub HandlerPlace : Type 0
HandlerPlace = (p : Priv) (from : Mode) (t : Trap) → IsPriv p → IsPlace (handler_of p from t)

-- a return, and the address that it goes to
abbrev pub LeftKeeps : Type 0
LeftKeeps = (p : Priv) (r : Ret) → IsPriv p → IsPriv (after_return p r)

abbrev pub ReturnPlace : Type 0
ReturnPlace = (p : Priv) (r : Ret) → IsPriv p → IsPlace (pc_after p r)
