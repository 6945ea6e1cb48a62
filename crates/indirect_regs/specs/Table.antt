-- The registers that a hart's software reads and writes by number, those of control transfer records among them (RISC-V
-- Control Transfer Records 1.0; Privileged Architecture, "Indirect CSR Access").
use Rattle.std.specs.Prelude.{ℕ, ◌%◌, cond, nat_eq, Option, Some, None, List, [], ◌∷◌, bit_and}
use Rattle.ctr_bits.specs.Mask.{with_masked}
use Rattle.ctr_csrs.specs.ControlFigure.{s_mask}
use Rattle.guest_modes.specs.declared.registers.Priv.{Priv}
use Rattle.guest_modes.specs.Numbers.{is_register}
use Rattle.guest_modes.specs.Registers.{read_of, after_csr_write}
use Rattle.ctr_buffer.specs.declared.event.Event.{Event}
use Rattle.ctr_buffer.specs.declared.slot.Part.{Part}
use Rattle.ctr_buffer.specs.declared.slot.Part.TheVariants.{Source, Target, Kind}
use Rattle.ctr_buffer.specs.Entry.{part_of}
use Rattle.indirect_regs.specs.declared.port.PortReg.{PortReg}
use Rattle.indirect_regs.specs.declared.port.PortReg.TheVariants.{Mctrctl, Vsctrctl, Depth, Status, Select}
use Rattle.indirect_regs.specs.Unit.{UnitState}
use Rattle.indirect_regs.specs.Ports.{read, event_of, changed, names_entry, entry_named, part_written}

-- a register by number: what it reads as, where its select names an entry or it needs none; the event of the record
-- buffer that a write of a value is; and what else the write changes, of the unit and of the other registers
pub record Row : Type 0 where
  pub number : ℕ
  pub reads : UnitState → Priv → Option ℕ
  pub event : UnitState → Priv → ℕ → Option Event
  pub unit : UnitState → ℕ → UnitState
  pub registers : Priv → ℕ → Priv

-- a register of the unit
abbrev pub direct : ℕ → PortReg → Row
direct number reg = record {
  number = number;
  reads = λ u p. Some (read reg u);
  event = λ u p v. event_of reg u v;
  unit = λ u v. changed reg u v;
  registers = λ p v. p;
}

-- which of the two selects a register of an entry goes by
abbrev pub by_siselect : UnitState → Priv → ℕ
by_siselect u p = u.select

abbrev pub by_vsiselect : UnitState → Priv → ℕ
by_vsiselect u p = p.vsiselect

-- what a part of the entry that a select names reads as, if it names one
abbrev pub part_read : UnitState → ℕ → Part → Option ℕ
part_read u select part = cond (names_entry select) (Some (part_of part (entry_named u.stack select))) None

-- and what a register of an entry that isn't used reads as
abbrev pub unused_read : ℕ → Option ℕ
unused_read select = cond (names_entry select) (Some 0) None

-- a part of the entry that a select names
abbrev pub indirect : ℕ → (UnitState → Priv → ℕ) → Part → Row
indirect number select part = record {
  number = number;
  reads = λ u p. part_read u (select u p) part;
  event = λ u p v. part_written u.stack (select u p) part v;
  unit = λ u v. u;
  registers = λ p v. p;
}

-- a register that reads 0 and can't be changed, where a select names an entry
abbrev pub unused : ℕ → (UnitState → Priv → ℕ) → Row
unused number select = record {
  number = number;
  reads = λ u p. unused_read (select u p);
  event = λ u p v. None;
  unit = λ u v. u;
  registers = λ p v. p;
}

-- sctrctl, which is mctrctl without M and MTE
abbrev pub sctrctl : ℕ → Row
sctrctl number = record {
  number = number;
  reads = λ u p. Some (bit_and u.m s_mask);
  event = λ u p v. None;
  unit = λ u v. record u { m = with_masked s_mask u.m v };
  registers = λ p v. p;
}

-- vsiselect
abbrev pub guest_select : ℕ → Row
guest_select number = record {
  number = number;
  reads = λ u p. Some p.vsiselect;
  event = λ u p v. None;
  unit = λ u v. u;
  registers = λ p v. record p { vsiselect = v % 4096 };
}

-- a register of the hart's modes and traps
abbrev pub kept : ℕ → Row
kept number = record {
  number = number;
  reads = λ u p. Some (read_of number p);
  event = λ u p v. None;
  unit = λ u v. u;
  registers = λ p v. after_csr_write number v p;
}

-- no register: nothing is read, and nothing changes
abbrev pub no_register : ℕ → Row
no_register number = record {
  number = number;
  reads = λ u p. None;
  event = λ u p v. None;
  unit = λ u v. u;
  registers = λ p v. p;
}

abbrev pub transfer_rows : List Row
transfer_rows =
    direct 0x34E Mctrctl
    ∷ sctrctl 0x14E
    ∷ direct 0x24E Vsctrctl
    ∷ direct 0x14F Status
    ∷ direct 0x15F Depth
    ∷ direct 0x150 Select
    ∷ indirect 0x151 by_siselect Source
    ∷ indirect 0x152 by_siselect Target
    ∷ indirect 0x153 by_siselect Kind
    ∷ unused 0x155 by_siselect
    ∷ unused 0x156 by_siselect
    ∷ unused 0x157 by_siselect
    ∷ guest_select 0x250
    ∷ indirect 0x251 by_vsiselect Source
    ∷ indirect 0x252 by_vsiselect Target
    ∷ indirect 0x253 by_vsiselect Kind
    ∷ unused 0x255 by_vsiselect
    ∷ unused 0x256 by_vsiselect
    ∷ unused 0x257 by_vsiselect
    ∷ []

abbrev pub row_in : List Row → ℕ → Row
row_in [] number = no_register number
row_in (r ∷ rs) number = cond (nat_eq r.number number) r (row_in rs number)

abbrev pub row_of : ℕ → Row
row_of number = cond (is_register number) (kept number) (row_in transfer_rows number)
