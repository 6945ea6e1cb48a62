-- Views of registers, bit by bit.
use Rattle.std.proofs.Common.{ℕ, ◌≡◌, ◌≢◌, ◌*◌, ◌/◌, ◌^◌, ◌<◌, ◌≤◌, min, max, suc, Bool, true, false, ◌&&◌, ◌||◌, cond, nat_eq, List, [], ◌∷◌, bit_and, bit_or, ◌⊎◌, inl, inr, refl, sym, ◌∙◌, ap, arith, lit<}
use Rattle.std.proofs.lemmas.Bool.{agree_below_at, or_cases, eqb-true, eqb-false, cases_lt, cases_Bool}
use Rattle.std.proofs.lemmas.Nat.{and_le_r, or_lt, shl-shr}
use Rattle.std.proofs.lemmas.Nat.Bits.{bit_at-suc, bit_at_and, bit_at_or, bit_at-pow_other, bit_at_above, bit_at-lt}
use Rattle.std.specs.Int.{bit_at}
use Rattle.ctr_bits.specs.Mask.{with_masked}
use Rattle.ctr_bits.specs.MaskBits.{merged_bit}
use Rattle.guest_modes.specs.declared.registers.Priv.{Priv}
use Rattle.guest_modes.specs.Registers.{shown, lowered, lifted}
use Rattle.guest_modes.specs.Numbers.{is_in}
use Rattle.guest_modes.specs.Views.{IsGuestView, IsLifted, supervisor_bits, guest_bits}
use Rattle.guest_modes.specs.Words.{is_on}
use Rattle.guest_modes.proofs.InterruptLemmas.{mask_has}

pub merged_inside : (mask old word i : ℕ) → mask < 2 ^ 64 → i < 64 → bit_at mask i ≡ 1 → bit_at (with_masked mask old word) i ≡ bit_at word i
merged_inside mask old word i small p e = omega (arith, merged_bit mask old word i small p, e, bit_at-lt word i, bit_at-lt old i)

pub merged_outside : (mask old word i : ℕ) → mask < 2 ^ 64 → i < 64 → bit_at mask i ≡ 0 → bit_at (with_masked mask old word) i ≡ bit_at old i
merged_outside mask old word i small p e = omega (arith, merged_bit mask old word i small p, e, bit_at-lt word i, bit_at-lt old i)

pub part_fits : (word part : ℕ) → part < 2 ^ 64 → bit_and word part < 2 ^ 64
part_fits word part p = omega (arith, and_le_r word part)

pub shown_fits : (p : Priv) → shown p < 2 ^ 64
shown_fits p = or_lt 64 (bit_and p.hideleg 0x444) (bit_and (bit_and p.mideleg p.hideleg) 0x2000) (part_fits p.hideleg 0x444 (lit< tt)) (part_fits (bit_and p.mideleg p.hideleg) 0x2000 (lit< tt))

-- the bits that VS is shown
abbrev pub shown_in : ℕ → ℕ → ℕ
shown_in mideleg hideleg = bit_or (bit_and hideleg 0x444) (bit_and (bit_and mideleg hideleg) 0x2000)

pub shown_bit : (m h i : ℕ) → bit_at (shown_in m h) i ≡ max (min (bit_at h i) (bit_at 0x444 i)) (min (min (bit_at m i) (bit_at h i)) (bit_at 0x2000 i))
shown_bit m h i =
    omega (arith, bit_at_or (bit_and h 0x444) (bit_and (bit_and m h) 0x2000) i, bit_at_and h 0x444 i, bit_at_and (bit_and m h) 0x2000 i, bit_at_and m h i)

pub lowered_bit : (w i : ℕ) → bit_at (lowered w) i ≡ max (min (bit_at w (suc i)) (bit_at 0x444 (suc i))) (min (bit_at w i) (bit_at 0x2000 i))
lowered_bit w i =
    omega (arith, bit_at_or (bit_and w 0x444 / 2) (bit_and w 0x2000) i, bit_at-suc (bit_and w 0x444) i, bit_at_and w 0x444 (suc i), bit_at_and w 0x2000 i)

-- 0x444 has the bits 2, 6 and 10 alone
pub no_bit : (i : ℕ) → i ≢ 1 → i ≢ 5 → i ≢ 9 → bit_at 0x444 (suc i) ≡ 0
no_bit i one five nine = bit_at-suc 0x444 i ∙ lower (cases_lt i 16)
  where
    test : ℕ → Bool
    test k = nat_eq (bit_at 0x222 k) 0 || (nat_eq k 1 || (nat_eq k 5 || nat_eq k 9))

    lower : (i < 16) ⊎ (16 ≤ i) → bit_at 0x222 i ≡ 0
    lower (inr p) = bit_at_above 0x222 16 i (lit< tt) p
    lower (inl p) = elim (or_cases (nat_eq (bit_at 0x222 i) 0) (nat_eq i 1 || (nat_eq i 5 || nat_eq i 9)) (agree_below_at test (λ k. true) 16 i refl p)) [
      | inl e ↦ eqb-true (bit_at 0x222 i) 0 e
      | inr a ↦ elim (or_cases (nat_eq i 1) (nat_eq i 5 || nat_eq i 9) a) [
        | inl e ↦ absurd (one (eqb-true i 1 e))
        | inr b ↦ elim (or_cases (nat_eq i 5) (nat_eq i 9) b) [ inl e ↦ absurd (five (eqb-true i 5 e)) | inr e ↦ absurd (nine (eqb-true i 9 e)) ]
      ]
    ]

pub guest_view : (m h w : ℕ) → IsGuestView m h w (lowered (bit_and w (shown_in m h)))
guest_view m h w =
    let seen = bit_and w (shown_in m h) in
    record {
      software = omega (arith, lowered_bit seen 1, bit_at_and w (shown_in m h) 2, bit_at_and w (shown_in m h) 1, shown_bit m h 2, bit_at-lt w 2, bit_at-lt h 2, bit_at-lt m 2);
      timer = omega (arith, lowered_bit seen 5, bit_at_and w (shown_in m h) 6, bit_at_and w (shown_in m h) 5, shown_bit m h 6, bit_at-lt w 6, bit_at-lt h 6, bit_at-lt m 6);
      external = omega (arith, lowered_bit seen 9, bit_at_and w (shown_in m h) 10, bit_at_and w (shown_in m h) 9, shown_bit m h 10, bit_at-lt w 10, bit_at-lt h 10, bit_at-lt m 10);
      overflow = omega (arith, lowered_bit seen 13, bit_at_and w (shown_in m h) 13, bit_at_and w (shown_in m h) 14, shown_bit m h 13, bit_at-lt w 13, bit_at-lt h 13, bit_at-lt m 13);
      others = λ i one five nine thirteen.
          let high : bit_at 0x2000 i ≡ 0 = bit_at-pow_other 13 i thirteen in
          omega (arith, lowered_bit seen i, no_bit i one five nine, high);
    }

pub doubled_bit : (v i : ℕ) → bit_at (v * 2) (suc i) ≡ bit_at v i
doubled_bit v i = bit_at-suc (v * 2) i ∙ ap (λ (n : ℕ). bit_at n i) (shl-shr v 1)

pub lifted_bit : (v i : ℕ) → bit_at (lifted v) (suc i) ≡ max (min (bit_at v i) (bit_at 0x222 i)) (min (bit_at v (suc i)) (bit_at 0x2000 (suc i)))
lifted_bit v i =
    omega (arith, bit_at_or (bit_and v 0x222 * 2) (bit_and v 0x2000) (suc i), doubled_bit (bit_and v 0x222) i, bit_at_and v 0x222 i, bit_at_and v 0x2000 (suc i))

pub is_lifted : (v : ℕ) → IsLifted v (lifted v)
is_lifted v = record {
  software = omega (arith, lifted_bit v 1, bit_at-lt v 1);
  timer = omega (arith, lifted_bit v 5, bit_at-lt v 5);
  external = omega (arith, lifted_bit v 9, bit_at-lt v 9);
  overflow = omega (arith, lifted_bit v 12, bit_at-lt v 13, bit_at-lt v 12);
}

-- a bit as a number, and as what a test says of it
abbrev pub bit_of : Bool → ℕ
bit_of b = cond b 1 0

pub bit_is : (w i : ℕ) → bit_at w i ≡ bit_of (is_on w i)
bit_is w i = elim (cases_Bool (is_on w i)) [
  | inl on ↦ eqb-true (bit_at w i) 1 on ∙ ap bit_of (sym on)
  | inr off ↦
      let other : bit_at w i ≢ 1 = eqb-false (bit_at w i) 1 off in
      let none : bit_at w i ≡ 0 = omega (arith, other, bit_at-lt w i) in
      none ∙ ap bit_of (sym off)
]

pub bit_in : (w i : ℕ) (there : Bool) → is_on w i ≡ there → bit_at w i ≡ bit_of there
bit_in w i there e = bit_is w i ∙ ap bit_of e

-- a bit of a word under a mask, with ones besides
pub joined_bit : (shows one : Bool) (x m o : ℕ) → x < 2 → m ≡ bit_of shows → o ≡ bit_of one
    → max (min x m) o ≡ cond one 1 (cond shows x 0)
joined_bit true true x m o fits e f = omega (arith, fits, e, f)
joined_bit false true x m o fits e f = omega (arith, fits, e, f)
joined_bit true false x m o fits e f = omega (arith, fits, e, f)
joined_bit false false x m o fits e f = omega (arith, fits, e, f)

pub part_bit : (w mask ones i : ℕ) (shows one : Bool) → is_on mask i ≡ shows → is_on ones i ≡ one
    → bit_at (bit_or (bit_and w mask) ones) i ≡ cond one 1 (cond shows (bit_at w i) 0)
part_bit w mask ones i shows one e f =
    let whole : bit_at (bit_or (bit_and w mask) ones) i ≡ max (min (bit_at w i) (bit_at mask i)) (bit_at ones i) =
    omega (arith, bit_at_or (bit_and w mask) ones i, bit_at_and w mask i) in
    whole
    ∙ joined_bit shows one (bit_at w i) (bit_at mask i) (bit_at ones i) (bit_at-lt w i)
    (bit_in mask i shows e) (bit_in ones i one f)

-- the whole word, with ones besides
pub whole_bit : (w ones i : ℕ) (one : Bool) → is_on ones i ≡ one
    → bit_at (bit_or w ones) i ≡ cond one 1 (bit_at w i)
whole_bit w ones i true f =
    omega (arith, bit_at_or w ones i, bit_in ones i true f, bit_at-lt w i)
whole_bit w ones i false f = omega (arith, bit_at_or w ones i, bit_in ones i false f)

-- a part alone
pub masked_bit : (w mask i : ℕ) (shows : Bool) → is_on mask i ≡ shows
    → bit_at (bit_and w mask) i ≡ cond shows (bit_at w i) 0
masked_bit w mask i true e =
    omega (arith, bit_at_and w mask i, bit_in mask i true e, bit_at-lt w i)
masked_bit w mask i false e = omega (arith, bit_at_and w mask i, bit_in mask i false e)

-- the part that another word delegates
pub both_bits : (a b : Bool) (x m d : ℕ) → x < 2 → m ≡ bit_of a → d ≡ bit_of b
    → min x (min d m) ≡ cond (a && b) x 0
both_bits true true x m d fits e f = omega (arith, fits, e, f)
both_bits true false x m d fits e f = omega (arith, fits, e, f)
both_bits false b x m d fits e f = omega (arith, fits, e)

pub delegated_bit : (w d mask i : ℕ) (shows : Bool) → is_on mask i ≡ shows
    → bit_at (bit_and w (bit_and d mask)) i ≡ cond (shows && is_on d i) (bit_at w i) 0
delegated_bit w d mask i shows e =
    let parts : bit_at (bit_and w (bit_and d mask)) i ≡ min (bit_at w i) (min (bit_at d i) (bit_at mask i)) =
    omega (arith, bit_at_and w (bit_and d mask) i, bit_at_and d mask i) in
    parts
    ∙ both_bits shows (is_on d i) (bit_at w i) (bit_at mask i) (bit_at d i) (bit_at-lt w i)
    (bit_in mask i shows e) (bit_is d i)

-- the masks by their places
pub status_places : (i : ℕ) → is_on 0x122 i ≡ is_in i (1 ∷ 5 ∷ 8 ∷ [])
status_places = mask_has 0x122 9 (1 ∷ 5 ∷ 8 ∷ []) (lit< tt) refl refl

pub supervisor_places : (i : ℕ) → is_on 0x2222 i ≡ is_in i supervisor_bits
supervisor_places = mask_has 0x2222 14 supervisor_bits (lit< tt) refl refl

pub guest_places : (i : ℕ) → is_on 0x444 i ≡ is_in i guest_bits
guest_places = mask_has 0x444 11 guest_bits (lit< tt) refl refl

pub one_length : (i : ℕ) → is_on 0x200000000 i ≡ is_in i (33 ∷ [])
one_length = mask_has 0x200000000 34 (33 ∷ []) (lit< tt) refl refl

pub both_lengths : (i : ℕ) → is_on 0xA00000000 i ≡ is_in i (33 ∷ 35 ∷ [])
both_lengths = mask_has 0xA00000000 36 (33 ∷ 35 ∷ []) (lit< tt) refl refl
