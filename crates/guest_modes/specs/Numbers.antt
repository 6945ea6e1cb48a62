-- Which register numbers there are (RISC-V Privileged Architecture, "CSR Listing").
use Rattle.std.specs.Prelude.{ℕ, Bool, false, ◌||◌, nat_eq, List, [], ◌∷◌}
use Rattle.guest_modes.specs.Registers.{Row, machine_registers, supervisor_registers, hypervisor_registers, virtual_registers}

abbrev pub is_in : ℕ → List ℕ → Bool
is_in number [] = false
is_in number (n ∷ ns) = nat_eq n number || is_in number ns

abbrev pub has_row : ℕ → List Row → Bool
has_row number [] = false
has_row number (r ∷ rs) = nat_eq r.number number || has_row number rs

-- the number of a register that isn't one of the control transfer records
abbrev pub is_register : ℕ → Bool
is_register number =
    has_row number machine_registers || (has_row number supervisor_registers || (has_row number hypervisor_registers || has_row number virtual_registers))

-- the numbers of control transfer records (Control Transfer Records 1.0): mctrctl, sctrctl and vsctrctl, sctrstatus,
-- sctrdepth, and siselect and vsiselect with the registers that they select
abbrev pub transfer_numbers : List ℕ
transfer_numbers =
    0x34E ∷ 0x14E ∷ 0x24E ∷ 0x14F ∷ 0x15F
    ∷ 0x150 ∷ 0x151 ∷ 0x152 ∷ 0x153 ∷ 0x155 ∷ 0x156 ∷ 0x157
    ∷ 0x250 ∷ 0x251 ∷ 0x252 ∷ 0x253 ∷ 0x255 ∷ 0x256 ∷ 0x257 ∷ []

-- the number of any register
abbrev pub is_there : ℕ → Bool
is_there number = is_in number transfer_numbers || is_register number
