-- Laws of external traps: a trap goes to a mode of more privilege, and needs the trap-enable bits
-- of that mode and of each mode between (RISC-V Control Transfer Records 1.0, "External Traps"; the
-- modes and their order are those of the Privileged Architecture, "Hypervisor Extension", privilege
-- modes).
use Rattle.std.specs.Prelude.{ℕ, ◌≡◌, Bool, true, false, ◌&&◌, ◌||◌, not, ltb, IfSome, List, [], ◌∷◌}
use Rattle.ctr_csrs.specs.declared.mode.Mode.{Mode}
use Rattle.ctr_csrs.specs.declared.mode.Mode.TheVariants.{M, S, U, Vs, Vu}
use Rattle.ctr_csrs.specs.Modes.{is_virtual}
use Rattle.ctr_csrs.specs.TrapEnables.{TrapEnable, M_mte, M_ste, Vs_ste, needed, is_pair}

-- the order of privilege: U and VU below VS, VS below HS, HS below M
abbrev pub rank : Mode → ℕ
rank U = 0
rank Vu = 0
rank Vs = 1
rank S = 2
rank M = 3

-- one mode has more privilege than another, and can take its traps: VS takes those of VU alone
abbrev pub is_above : Mode → Mode → Bool
is_above higher lower =
    ltb (rank lower) (rank higher) && (not (is_virtual higher) || is_virtual lower)

-- the mode whose traps from below a bit enables
abbrev pub enabled_mode : TrapEnable → Mode
enabled_mode M_mte = M
enabled_mode M_ste = S
enabled_mode Vs_ste = Vs

abbrev pub same_bit : TrapEnable → TrapEnable → Bool
same_bit M_mte M_mte = true
same_bit M_ste M_ste = true
same_bit Vs_ste Vs_ste = true
same_bit _ _ = false

abbrev pub has_bit : TrapEnable → List TrapEnable → Bool
has_bit bit [] = false
has_bit bit (other ∷ others) = same_bit bit other || has_bit bit others

-- a trap changes the mode exactly between a mode and one above it: of the 25 pairs, 8
abbrev pub PairsRise : Type 0
PairsRise = (from to : Mode) → is_pair from to ≡ is_above to from

-- the mode of a bit is above the one that a trap leaves, and not above the one that takes it
abbrev pub is_between : TrapEnable → Mode → Mode → Bool
is_between bit from to = is_above (enabled_mode bit) from && not (is_above (enabled_mode bit) to)

-- those are the bits that the trap needs
abbrev pub NeedsBetween : Mode → Mode → TrapEnable → Type 0
NeedsBetween from to bit =
    IfSome (needed from to) (λ bits. has_bit bit bits ≡ is_between bit from to)

abbrev pub NeedsModesBetween : Type 0
NeedsModesBetween = (from to : Mode) (bit : TrapEnable) → NeedsBetween from to bit
