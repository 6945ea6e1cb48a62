-- Registers that show a part of another one, bit by bit (RISC-V Privileged Architecture,
-- "Supervisor Status Register", "Supervisor Interrupt Registers" and "Hypervisor Interrupt
-- Registers").
use Rattle.std.specs.Prelude.{◌≡◌, ◌≢◌, ℕ, ◌<◌, Bool, true, ◌&&◌, cond, min, bit_and, List, [], ◌∷◌, All}
use Rattle.std.specs.Int.{bit_at}
use Rattle.guest_modes.specs.declared.registers.Priv.{Priv}
use Rattle.guest_modes.specs.Numbers.{is_in}
use Rattle.guest_modes.specs.Registers.{read_of, after_csr_write, shown, lifted}
use Rattle.guest_modes.specs.Words.{is_on}

-- a view: its number, the register behind it, the bits of that register that a write through the view changes, and
-- the word that these bits are taken from
pub record View : Type 0 where
  pub number : ℕ
  pub behind : Priv → ℕ
  pub changes : Priv → ℕ
  pub word : ℕ → ℕ

abbrev pub view : ℕ → (Priv → ℕ) → (Priv → ℕ) → (ℕ → ℕ) → View
view number behind changes word = record { number = number; behind = behind; changes = changes; word = word }

-- sstatus, sie and sip, mip, hie, hip and hvip, vsie and vsip
abbrev pub views : List View
views =
    view 0x100 (λ p. p.mstatus) (λ p. 0x122) (λ v. v)
    ∷ view 0x104 (λ p. p.mie) (λ p. bit_and p.mideleg 0x2222) (λ v. v)
    ∷ view 0x144 (λ p. p.mip) (λ p. bit_and p.mideleg 0x2002) (λ v. v)
    ∷ view 0x344 (λ p. p.mip) (λ p. 0x2226) (λ v. v)
    ∷ view 0x604 (λ p. p.mie) (λ p. 0x444) (λ v. v)
    ∷ view 0x644 (λ p. p.mip) (λ p. 0x4) (λ v. v)
    ∷ view 0x645 (λ p. p.mip) (λ p. 0x444) (λ v. v)
    ∷ view 0x204 (λ p. p.mie) (λ p. shown p) (λ v. lifted v)
    ∷ view 0x244 (λ p. p.mip) (λ p. bit_and (shown p) 0x2004) (λ v. lifted v)
    ∷ []

-- a write through the view sets the bits that it may change, and leaves all others of the register behind it
pub record WritesItsBits (p : Priv) (value : ℕ) (w : View) : Type 0 where
  pub changed : (i : ℕ) → i < 64 → bit_at (w.changes p) i ≡ 1 → bit_at (w.behind (after_csr_write w.number value p)) i ≡ bit_at (w.word value) i
  pub others : (i : ℕ) → i < 64 → bit_at (w.changes p) i ≡ 0 → bit_at (w.behind (after_csr_write w.number value p)) i ≡ bit_at (w.behind p) i

abbrev pub ViewsWriteTheirBits : Type 0
ViewsWriteTheirBits = (p : Priv) (value : ℕ) → All (WritesItsBits p value) views

-- what a register is read as: its number, the register behind it, whether it shows the bit at a
-- place, and the places that read 1
pub record Reading : Type 0 where
  pub number : ℕ
  pub behind : Priv → ℕ
  pub shows : Priv → ℕ → Bool
  pub ones : List ℕ

abbrev pub reading : ℕ → (Priv → ℕ) → (Priv → ℕ → Bool) → List ℕ → Reading
reading number behind shows ones =
    record { number = number; behind = behind; shows = shows; ones = ones }

-- every bit; these alone; those that mideleg has of these
abbrev pub each_bit : Priv → ℕ → Bool
each_bit p i = true

abbrev pub these : List ℕ → Priv → ℕ → Bool
these places p i = is_in i places

abbrev pub those_delegated : List ℕ → Priv → ℕ → Bool
those_delegated places p i = is_in i places && is_on p.mideleg i

-- the bits of supervisor interrupts (SSI, STI and SEI, and the counter overflow LCOFI), and those of
-- VS (VSSI, VSTI and VSEI)
abbrev pub supervisor_bits : List ℕ
supervisor_bits = 1 ∷ 5 ∷ 9 ∷ 13 ∷ []

abbrev pub guest_bits : List ℕ
guest_bits = 2 ∷ 6 ∷ 10 ∷ []

-- mstatus, whose fields UXL 33:32 and SXL 35:34 read 2; sstatus, which shows SIE 1, SPIE 5 and SPP 8
-- and whose UXL reads 2; hstatus, whose VSXL 33:32 reads 2, and vsstatus, whose UXL does; mideleg, in
-- which the interrupts of VS read 1; sie, sip and mip; hie, hip and hvip
abbrev pub readings : List Reading
readings =
    reading 0x300 (λ p. p.mstatus) each_bit (33 ∷ 35 ∷ [])
    ∷ reading 0x100 (λ p. p.mstatus) (these (1 ∷ 5 ∷ 8 ∷ [])) (33 ∷ [])
    ∷ reading 0x600 (λ p. p.hstatus) each_bit (33 ∷ [])
    ∷ reading 0x200 (λ p. p.vsstatus) each_bit (33 ∷ [])
    ∷ reading 0x303 (λ p. p.mideleg) each_bit guest_bits
    ∷ reading 0x104 (λ p. p.mie) (those_delegated supervisor_bits) []
    ∷ reading 0x144 (λ p. p.mip) (those_delegated supervisor_bits) []
    ∷ reading 0x344 (λ p. p.mip) each_bit []
    ∷ reading 0x604 (λ p. p.mie) (these guest_bits) []
    ∷ reading 0x644 (λ p. p.mip) (these guest_bits) []
    ∷ reading 0x645 (λ p. p.mip) (these guest_bits) []
    ∷ []

-- each bit that is read is 1, the bit behind it, or 0
abbrev pub ReadsItsBits : Priv → Reading → Type 0
ReadsItsBits p r = (i : ℕ) →
    bit_at (read_of r.number p) i
    ≡ cond (is_in i r.ones) 1 (cond (r.shows p i) (bit_at (r.behind p) i) 0)

abbrev pub ViewsReadTheirBits : Type 0
ViewsReadTheirBits = (p : Priv) → All (ReadsItsBits p) readings

-- what VS sees of the interrupts in a register of M: those of VS at the places of S, where the hypervisor delegates
-- them, and a counter overflow, where M and the hypervisor delegate it; nothing else
pub record IsGuestView (mideleg hideleg behind seen : ℕ) : Type 0 where
  pub software : bit_at seen 1 ≡ min (bit_at behind 2) (bit_at hideleg 2)
  pub timer : bit_at seen 5 ≡ min (bit_at behind 6) (bit_at hideleg 6)
  pub external : bit_at seen 9 ≡ min (bit_at behind 10) (bit_at hideleg 10)
  pub overflow : bit_at seen 13 ≡ min (bit_at behind 13) (min (bit_at mideleg 13) (bit_at hideleg 13))
  pub others : (i : ℕ) → i ≢ 1 → i ≢ 5 → i ≢ 9 → i ≢ 13 → bit_at seen i ≡ 0

-- vsip and vsie
abbrev pub GuestSeesItsInterrupts : Type 0
GuestSeesItsInterrupts = (p : Priv) →
    IsGuestView p.mideleg p.hideleg p.mip (read_of 0x244 p) × IsGuestView p.mideleg p.hideleg p.mie (read_of 0x204 p)

-- a guest's word at the places of M: bits 1, 5 and 9 are bits 2, 6 and 10 there
pub record IsLifted (value word : ℕ) : Type 0 where
  pub software : bit_at word 2 ≡ bit_at value 1
  pub timer : bit_at word 6 ≡ bit_at value 5
  pub external : bit_at word 10 ≡ bit_at value 9
  pub overflow : bit_at word 13 ≡ bit_at value 13

abbrev pub GuestBitsAreLifted : Type 0
GuestBitsAreLifted = (value : ℕ) → IsLifted value (lifted value)
