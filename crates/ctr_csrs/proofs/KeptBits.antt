-- Which bits the masks of the control registers keep.
use Rattle.std.proofs.Common.{◌≡◌, ℕ, ◌&&◌, if◌then◌else◌, false, bit_and, nat_eq, refl, ap, lit<, lit≤}
use Rattle.ctr_bits.specs.Field.{field_of}
use Rattle.ctr_bits.specs.Mask.{with_masked}
use Rattle.ctr_bits.specs.MaskBits.{field_in_mask, field_off_mask, field_of_merged_in, field_of_merged_off}
use Rattle.ctr_csrs.specs.ControlFigure.{is_on, is_shown, place_of, m_mask, s_mask}
use Rattle.ctr_csrs.specs.declared.control_bit.ControlBit.{ControlBit}
use Rattle.ctr_csrs.specs.declared.control_bit.ControlBit.TheVariants.{U, S, M, Rasemu, Ste, Mte, Bpfrz, Lcofifrz, Excinh, Intrinh, Tretinh, Ntbren, Tkbrinh, Indcallinh, Dircallinh, Indjmpinh, Dirjmpinh, Corswapinh, Retinh, Indljmpinh, Dirljmpinh}

-- a bit that a mask has, and one that it hasn't
pub is_kept : (word mask : ℕ) (bit : ControlBit) → field_of (place_of bit) 1 mask ≡ 1 → is_on (bit_and word mask) bit ≡ is_on word bit
is_kept word mask bit has = ap (λ (n : ℕ). nat_eq n 1) (field_in_mask (place_of bit) 1 mask word has)

pub is_cleared : (word mask : ℕ) (bit : ControlBit) → field_of (place_of bit) 1 mask ≡ 0 → is_on (bit_and word mask) bit ≡ false
is_cleared word mask bit lacks = ap (λ (n : ℕ). nat_eq n 1) (field_off_mask (place_of bit) 1 mask word lacks)

-- mctrctl keeps each bit of the figure
pub m_keeps : (word : ℕ) (bit : ControlBit) → is_on (bit_and word m_mask) bit ≡ is_on word bit
m_keeps word U = is_kept word m_mask U refl
m_keeps word S = is_kept word m_mask S refl
m_keeps word M = is_kept word m_mask M refl
m_keeps word Rasemu = is_kept word m_mask Rasemu refl
m_keeps word Ste = is_kept word m_mask Ste refl
m_keeps word Mte = is_kept word m_mask Mte refl
m_keeps word Bpfrz = is_kept word m_mask Bpfrz refl
m_keeps word Lcofifrz = is_kept word m_mask Lcofifrz refl
m_keeps word Excinh = is_kept word m_mask Excinh refl
m_keeps word Intrinh = is_kept word m_mask Intrinh refl
m_keeps word Tretinh = is_kept word m_mask Tretinh refl
m_keeps word Ntbren = is_kept word m_mask Ntbren refl
m_keeps word Tkbrinh = is_kept word m_mask Tkbrinh refl
m_keeps word Indcallinh = is_kept word m_mask Indcallinh refl
m_keeps word Dircallinh = is_kept word m_mask Dircallinh refl
m_keeps word Indjmpinh = is_kept word m_mask Indjmpinh refl
m_keeps word Dirjmpinh = is_kept word m_mask Dirjmpinh refl
m_keeps word Corswapinh = is_kept word m_mask Corswapinh refl
m_keeps word Retinh = is_kept word m_mask Retinh refl
m_keeps word Indljmpinh = is_kept word m_mask Indljmpinh refl
m_keeps word Dirljmpinh = is_kept word m_mask Dirljmpinh refl

-- sctrctl and vsctrctl keep those that they show
pub s_keeps : (word : ℕ) (bit : ControlBit) → is_on (bit_and word s_mask) bit ≡ (is_shown bit && is_on word bit)
s_keeps word U = is_kept word s_mask U refl
s_keeps word S = is_kept word s_mask S refl
s_keeps word M = is_cleared word s_mask M refl
s_keeps word Rasemu = is_kept word s_mask Rasemu refl
s_keeps word Ste = is_kept word s_mask Ste refl
s_keeps word Mte = is_cleared word s_mask Mte refl
s_keeps word Bpfrz = is_kept word s_mask Bpfrz refl
s_keeps word Lcofifrz = is_kept word s_mask Lcofifrz refl
s_keeps word Excinh = is_kept word s_mask Excinh refl
s_keeps word Intrinh = is_kept word s_mask Intrinh refl
s_keeps word Tretinh = is_kept word s_mask Tretinh refl
s_keeps word Ntbren = is_kept word s_mask Ntbren refl
s_keeps word Tkbrinh = is_kept word s_mask Tkbrinh refl
s_keeps word Indcallinh = is_kept word s_mask Indcallinh refl
s_keeps word Dircallinh = is_kept word s_mask Dircallinh refl
s_keeps word Indjmpinh = is_kept word s_mask Indjmpinh refl
s_keeps word Dirjmpinh = is_kept word s_mask Dirjmpinh refl
s_keeps word Corswapinh = is_kept word s_mask Corswapinh refl
s_keeps word Retinh = is_kept word s_mask Retinh refl
s_keeps word Indljmpinh = is_kept word s_mask Indljmpinh refl
s_keeps word Dirljmpinh = is_kept word s_mask Dirljmpinh refl

-- a write through sctrctl takes those from the value, and the two others from the old word
pub s_merges : (old value : ℕ) (bit : ControlBit) → is_on (with_masked s_mask old value) bit ≡ (if is_shown bit then is_on value bit else is_on old bit)
s_merges old value U = ap (λ (n : ℕ). nat_eq n 1) (field_of_merged_in (place_of U) 1 s_mask old value (lit< tt) (lit≤ tt) refl)
s_merges old value S = ap (λ (n : ℕ). nat_eq n 1) (field_of_merged_in (place_of S) 1 s_mask old value (lit< tt) (lit≤ tt) refl)
s_merges old value M = ap (λ (n : ℕ). nat_eq n 1) (field_of_merged_off (place_of M) 1 s_mask old value (lit< tt) (lit≤ tt) refl)
s_merges old value Rasemu = ap (λ (n : ℕ). nat_eq n 1) (field_of_merged_in (place_of Rasemu) 1 s_mask old value (lit< tt) (lit≤ tt) refl)
s_merges old value Ste = ap (λ (n : ℕ). nat_eq n 1) (field_of_merged_in (place_of Ste) 1 s_mask old value (lit< tt) (lit≤ tt) refl)
s_merges old value Mte = ap (λ (n : ℕ). nat_eq n 1) (field_of_merged_off (place_of Mte) 1 s_mask old value (lit< tt) (lit≤ tt) refl)
s_merges old value Bpfrz = ap (λ (n : ℕ). nat_eq n 1) (field_of_merged_in (place_of Bpfrz) 1 s_mask old value (lit< tt) (lit≤ tt) refl)
s_merges old value Lcofifrz = ap (λ (n : ℕ). nat_eq n 1) (field_of_merged_in (place_of Lcofifrz) 1 s_mask old value (lit< tt) (lit≤ tt) refl)
s_merges old value Excinh = ap (λ (n : ℕ). nat_eq n 1) (field_of_merged_in (place_of Excinh) 1 s_mask old value (lit< tt) (lit≤ tt) refl)
s_merges old value Intrinh = ap (λ (n : ℕ). nat_eq n 1) (field_of_merged_in (place_of Intrinh) 1 s_mask old value (lit< tt) (lit≤ tt) refl)
s_merges old value Tretinh = ap (λ (n : ℕ). nat_eq n 1) (field_of_merged_in (place_of Tretinh) 1 s_mask old value (lit< tt) (lit≤ tt) refl)
s_merges old value Ntbren = ap (λ (n : ℕ). nat_eq n 1) (field_of_merged_in (place_of Ntbren) 1 s_mask old value (lit< tt) (lit≤ tt) refl)
s_merges old value Tkbrinh = ap (λ (n : ℕ). nat_eq n 1) (field_of_merged_in (place_of Tkbrinh) 1 s_mask old value (lit< tt) (lit≤ tt) refl)
s_merges old value Indcallinh = ap (λ (n : ℕ). nat_eq n 1) (field_of_merged_in (place_of Indcallinh) 1 s_mask old value (lit< tt) (lit≤ tt) refl)
s_merges old value Dircallinh = ap (λ (n : ℕ). nat_eq n 1) (field_of_merged_in (place_of Dircallinh) 1 s_mask old value (lit< tt) (lit≤ tt) refl)
s_merges old value Indjmpinh = ap (λ (n : ℕ). nat_eq n 1) (field_of_merged_in (place_of Indjmpinh) 1 s_mask old value (lit< tt) (lit≤ tt) refl)
s_merges old value Dirjmpinh = ap (λ (n : ℕ). nat_eq n 1) (field_of_merged_in (place_of Dirjmpinh) 1 s_mask old value (lit< tt) (lit≤ tt) refl)
s_merges old value Corswapinh = ap (λ (n : ℕ). nat_eq n 1) (field_of_merged_in (place_of Corswapinh) 1 s_mask old value (lit< tt) (lit≤ tt) refl)
s_merges old value Retinh = ap (λ (n : ℕ). nat_eq n 1) (field_of_merged_in (place_of Retinh) 1 s_mask old value (lit< tt) (lit≤ tt) refl)
s_merges old value Indljmpinh = ap (λ (n : ℕ). nat_eq n 1) (field_of_merged_in (place_of Indljmpinh) 1 s_mask old value (lit< tt) (lit≤ tt) refl)
s_merges old value Dirljmpinh = ap (λ (n : ℕ). nat_eq n 1) (field_of_merged_in (place_of Dirljmpinh) 1 s_mask old value (lit< tt) (lit≤ tt) refl)
