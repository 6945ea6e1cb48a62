-- What is read back from the registers is what was written (RISC-V Control Transfer Records 1.0,
-- registers sctrdepth and sctrstatus).
use Rattle.std.specs.Prelude.{ℕ, ◌+◌, ◌*◌, ◌%◌, ◌^◌, ◌≡◌, ◌<◌, ◌≤◌, Bool, true, false, cond, nat_eq, Some, refl}
use Rattle.std.proofs.Common.{◌∙◌, ap, arith, lit≤}
use Rattle.std.proofs.Math.Nat.{mod-eq_of_lt}
use Rattle.ctr_bits.specs.Field.{field_of}
use Rattle.ctr_csrs.specs.declared.depth.Depth.{Depth}
use Rattle.ctr_csrs.specs.declared.depth.Depth.TheVariants.{D16, D32, D64, D128, D256}
use Rattle.ctr_csrs.specs.declared.status.Status.{Status}
use Rattle.ctr_csrs.specs.Depths.{code_of, entries_of, depth_at}
use Rattle.ctr_csrs.specs.StatusFigure.{word_of, pointer_in, frozen_in}

-- a depth comes back from its code
abbrev pub DepthComesBack : Type 0
DepthComesBack = (depth : Depth) → depth_at (code_of depth) ≡ Some depth

-- a depth is told by its number of entries
abbrev pub EntriesTellDepth : Type 0
EntriesTellDepth = (depth other : Depth) → entries_of depth ≡ entries_of other → depth ≡ other

-- the pointer and FROZEN come back from the status word
abbrev pub PointerComesBack : Type 0
PointerComesBack = (status : Status) (depth : Depth) → status.wrptr < entries_of depth → pointer_in (word_of status) depth ≡ status.wrptr

abbrev pub FrozenComesBack : Type 0
FrozenComesBack = (status : Status) → status.wrptr < 256 → frozen_in (word_of status) ≡ status.frozen

-- a buffer has 16 to 256 entries
abbrev pub EntriesInRange : Type 0
EntriesInRange = (depth : Depth) → (16 ≤ entries_of depth) × (entries_of depth ≤ 256)

pub most_entries : (depth : Depth) → entries_of depth ≤ 256
most_entries D16 = lit≤ tt
most_entries D32 = lit≤ tt
most_entries D64 = lit≤ tt
most_entries D128 = lit≤ tt
most_entries D256 = lit≤ tt

pub least_entries : (depth : Depth) → 16 ≤ entries_of depth
least_entries D16 = lit≤ tt
least_entries D32 = lit≤ tt
least_entries D64 = lit≤ tt
least_entries D128 = lit≤ tt
least_entries D256 = lit≤ tt

pub entries_in_range : EntriesInRange
entries_in_range depth = (least_entries depth, most_entries depth)

pub depth_comes_back : DepthComesBack
depth_comes_back D16 = refl
depth_comes_back D32 = refl
depth_comes_back D64 = refl
depth_comes_back D128 = refl
depth_comes_back D256 = refl

pub entries_tell_depth : EntriesTellDepth
entries_tell_depth D16 D16 same = refl
entries_tell_depth D16 D32 same = absurd (omega (arith, same))
entries_tell_depth D16 D64 same = absurd (omega (arith, same))
entries_tell_depth D16 D128 same = absurd (omega (arith, same))
entries_tell_depth D16 D256 same = absurd (omega (arith, same))
entries_tell_depth D32 D16 same = absurd (omega (arith, same))
entries_tell_depth D32 D32 same = refl
entries_tell_depth D32 D64 same = absurd (omega (arith, same))
entries_tell_depth D32 D128 same = absurd (omega (arith, same))
entries_tell_depth D32 D256 same = absurd (omega (arith, same))
entries_tell_depth D64 D16 same = absurd (omega (arith, same))
entries_tell_depth D64 D32 same = absurd (omega (arith, same))
entries_tell_depth D64 D64 same = refl
entries_tell_depth D64 D128 same = absurd (omega (arith, same))
entries_tell_depth D64 D256 same = absurd (omega (arith, same))
entries_tell_depth D128 D16 same = absurd (omega (arith, same))
entries_tell_depth D128 D32 same = absurd (omega (arith, same))
entries_tell_depth D128 D64 same = absurd (omega (arith, same))
entries_tell_depth D128 D128 same = refl
entries_tell_depth D128 D256 same = absurd (omega (arith, same))
entries_tell_depth D256 D16 same = absurd (omega (arith, same))
entries_tell_depth D256 D32 same = absurd (omega (arith, same))
entries_tell_depth D256 D64 same = absurd (omega (arith, same))
entries_tell_depth D256 D128 same = absurd (omega (arith, same))
entries_tell_depth D256 D256 same = refl

-- by FROZEN, with numbers alone
pub low_byte : (wrptr : ℕ) (frozen : Bool) → wrptr < 256 → field_of 0 8 (wrptr + 2 ^ 31 * cond frozen 1 0) ≡ wrptr
low_byte wrptr true small = omega arith
low_byte wrptr false small = omega arith

pub bit_31 : (wrptr : ℕ) (frozen : Bool) → wrptr < 256 → field_of 31 1 (wrptr + 2 ^ 31 * cond frozen 1 0) ≡ cond frozen 1 0
bit_31 wrptr true small = omega arith
bit_31 wrptr false small = omega arith

pub pointer_comes_back : PointerComesBack
pointer_comes_back status depth within =
    let small : status.wrptr < 256 = omega (arith, most_entries depth) in
    ap (λ (n : ℕ). n % entries_of depth) (low_byte status.wrptr status.frozen small) ∙ mod-eq_of_lt within

pub is_one : (b : Bool) → nat_eq (cond b 1 0) 1 ≡ b
is_one true = refl
is_one false = refl

pub frozen_comes_back : FrozenComesBack
frozen_comes_back status small = ap (λ (n : ℕ). nat_eq n 1) (bit_31 status.wrptr status.frozen small) ∙ is_one status.frozen
