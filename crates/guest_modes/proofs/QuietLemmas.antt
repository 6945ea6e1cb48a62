-- Where no interrupt is pending and enabled, none is taken.
use Rattle.std.proofs.Common.{ℕ, ◌≡◌, ◌/◌, ◌%◌, ◌^◌, true, false, ◌&&◌, bit_and, min, nat_eq, None, List, [], ◌∷◌, inl, inr, refl, sym, ◌∙◌, ap, arith}
use Rattle.std.specs.Bool.{OnTrue}
use Rattle.std.proofs.lemmas.Bool.{cases_Bool, eqb-true}
use Rattle.std.proofs.lemmas.Nat.Bits.{bit_at_and, bit_at-zero}
use Rattle.std.specs.Int.{bit_at}
use Rattle.ctr_csrs.specs.declared.mode.Mode.{Mode}
use Rattle.ctr_csrs.specs.declared.mode.Mode.TheVariants.{M, S, Vs}
use Rattle.guest_modes.specs.declared.registers.Priv.{Priv}
use Rattle.guest_modes.specs.Interrupts.{is_candidate, first_of, next_interrupt}
use Rattle.guest_modes.specs.Traps.{interrupt_taker, is_same, interrupt_order}
use Rattle.guest_modes.specs.Words.{is_on}

-- two words without a common bit don't both have this one
pub apart : (a b i : ℕ) → bit_and a b ≡ 0 → is_on a i ≡ true → is_on b i ≡ true → ⊥
apart a b i none in_a in_b =
    let one_a : bit_at a i ≡ 1 = eqb-true (a / 2 ^ i % 2) 1 in_a in
    let one_b : bit_at b i ≡ 1 = eqb-true (b / 2 ^ i % 2) 1 in_b in
    let both : min (bit_at a i) (bit_at b i) ≡ 0 = sym (bit_at_and a b i) ∙ ap (λ (n : ℕ). bit_at n i) none ∙ bit_at-zero i in
    omega (arith, one_a, one_b, both)

pub quiet : (p : Priv) (from : Mode) (i : ℕ) → bit_and p.mip p.mie ≡ 0 → is_candidate p from i ≡ false
quiet p from i none = elim (cases_Bool (is_on p.mip i)) [
  | inr off ↦ rw off refl
  | inl on ↦ elim (cases_Bool (is_on p.mie i)) [
    | inr off ↦ rw (on, off) refl
    | inl on_too ↦ absurd (apart p.mip p.mie i none on on_too)
  ]
]

pub none_first : (p : Priv) (from to : Mode) (ns : List ℕ) → bit_and p.mip p.mie ≡ 0
    → first_of (λ (i : ℕ). is_candidate p from i && is_same (interrupt_taker p i) to) ns ≡ None
none_first p from to [] none = refl
none_first p from to (n ∷ ns) none = rw (quiet p from n none) (none_first p from to ns none)

pub none_picked : (p : Priv) (from : Mode) → bit_and p.mip p.mie ≡ 0 → next_interrupt p from ≡ None
none_picked p from none =
    rw (none_first p from M interrupt_order none, none_first p from S interrupt_order none, none_first p from Vs interrupt_order none) refl

pub none_where_quiet : (p : Priv) (a b : ℕ) → a ≡ p.mip → b ≡ p.mie → OnTrue (nat_eq (bit_and a b) 0) ((mode : Mode) → next_interrupt p mode ≡ None)
none_where_quiet p a b is_mip is_mie = elim (cases_Bool (nat_eq (bit_and a b) 0)) [
  | inl on ↦ rw on (λ (mode : Mode). none_picked p mode (rw (sym is_mip, sym is_mie) (eqb-true (bit_and a b) 0 on)))
  | inr off ↦ rw off tt
]
