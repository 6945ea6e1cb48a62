-- The control registers (RISC-V Control Transfer Records 1.0, registers mctrctl, sctrctl and vsctrctl).
use Rattle.std.specs.Prelude.{◌≡◌, ℕ, ◌+◌, ◌^◌, Bool, true, false, nat_eq, List, [], ◌∷◌, refl}
use Rattle.ctr_bits.specs.Field.{field_of}
use Rattle.ctr_csrs.specs.declared.control_bit.ControlBit.{ControlBit}
use Rattle.ctr_csrs.specs.declared.control_bit.ControlBit.TheVariants.{U, S, M, Rasemu, Ste, Mte, Bpfrz, Lcofifrz, Excinh, Intrinh, Tretinh, Ntbren, Tkbrinh, Indcallinh, Dircallinh, Indjmpinh, Dirjmpinh, Corswapinh, Retinh, Indljmpinh, Dirljmpinh}

-- where each bit stands
abbrev pub place_of : ControlBit → ℕ
place_of U = 0
place_of S = 1
place_of M = 2
place_of Rasemu = 7
place_of Ste = 8
place_of Mte = 9
place_of Bpfrz = 11
place_of Lcofifrz = 12
place_of Excinh = 33
place_of Intrinh = 34
place_of Tretinh = 35
place_of Ntbren = 36
place_of Tkbrinh = 37
place_of Indcallinh = 40
place_of Dircallinh = 41
place_of Indjmpinh = 42
place_of Dirjmpinh = 43
place_of Corswapinh = 44
place_of Retinh = 45
place_of Indljmpinh = 46
place_of Dirljmpinh = 47

-- whether a bit of a word is set
abbrev pub is_on : ℕ → ControlBit → Bool
is_on word bit = nat_eq (field_of (place_of bit) 1 word) 1

-- the bits of mctrctl that are built: all of them
abbrev pub m_mask : ℕ
m_mask = 0x0000FF3E00001B87

-- the bits of sctrctl and vsctrctl: those of mctrctl without M and MTE
abbrev pub s_mask : ℕ
s_mask = 0x0000FF3E00001983

-- whether a bit belongs to sctrctl and vsctrctl
abbrev pub is_shown : ControlBit → Bool
is_shown M = false
is_shown Mte = false
is_shown U = true
is_shown S = true
is_shown Rasemu = true
is_shown Ste = true
is_shown Bpfrz = true
is_shown Lcofifrz = true
is_shown Excinh = true
is_shown Intrinh = true
is_shown Tretinh = true
is_shown Ntbren = true
is_shown Tkbrinh = true
is_shown Indcallinh = true
is_shown Dircallinh = true
is_shown Indjmpinh = true
is_shown Dirjmpinh = true
is_shown Corswapinh = true
is_shown Retinh = true
is_shown Indljmpinh = true
is_shown Dirljmpinh = true

-- the word with these bits alone
abbrev pub mask_of : List ControlBit → ℕ
mask_of [] = 0
mask_of (bit ∷ more) = 2 ^ place_of bit + mask_of more

-- the bits of sctrctl and vsctrctl, in the order of the figure
abbrev pub shown_bits : List ControlBit
shown_bits =
    U ∷ S ∷ Rasemu ∷ Ste ∷ Bpfrz ∷ Lcofifrz ∷ Excinh ∷ Intrinh ∷ Tretinh ∷ Ntbren ∷ Tkbrinh
    ∷ Indcallinh ∷ Dircallinh ∷ Indjmpinh ∷ Dirjmpinh ∷ Corswapinh ∷ Retinh ∷ Indljmpinh ∷ Dirljmpinh ∷ []

-- the masks have the bits of the figure and no other
pub s_mask_is : mask_of shown_bits ≡ s_mask
s_mask_is = refl

pub m_mask_is : mask_of (M ∷ Mte ∷ shown_bits) ≡ m_mask
m_mask_is = refl
