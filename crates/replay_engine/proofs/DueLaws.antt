-- The count of steps that asks for the next sample.
use Rattle.std.proofs.Common.{◌≡◌, refl, sym, ◌∙◌, ap, ℕ, ◌+◌, ◌-◌, ◌*◌, ◌/◌, ◌%◌, ◌^◌}
use Rattle.std.proofs.Common.{◌≤◌, ◌<◌, arith, nat_eq, Bool, true, false, cond}
use Rattle.std.specs.Prelude.{not, ◌&&◌}
use Rattle.std.proofs.Math.Nat.{mod-add-div, add-mul-mod_self_left, mod-eq_of_lt, mod_self}
use Rattle.std.proofs.lemmas.Nat.{mod_below}
use Rattle.replay_engine.specs.Runs.{is_due}
use Rattle.replay_engine.specs.Parts.{next_due}

shifted : (a b : ℕ) → a + b + 1 ≡ (a + 1) + b
shifted a b = omega arith

-- one more modulo a period
one_more : (p n : ℕ) → (n + 1) % p ≡ (n % p + 1) % p
one_more p n =
    ap (λ (k : ℕ). (k + 1) % p) (sym (mod-add-div n p))
    ∙ ap (λ (k : ℕ). k % p) (shifted (n % p) (p * (n / p)))
    ∙ add-mul-mod_self_left (n % p + 1) p (n / p)

below_next : (p n : ℕ) → 0 < p → n % p + 1 ≡ p → (n + 1) % p ≡ 0
below_next p n some e = one_more p n ∙ ap (λ (k : ℕ). k % p) e ∙ mod_self p

not_yet : (p n : ℕ) → n % p + 1 < p → (n + 1) % p ≡ n % p + 1
not_yet p n few = one_more p n ∙ mod-eq_of_lt few

period_case : (p n : ℕ) → nat_eq p 0 ≡ false → next_due p n ≡ n + (p - n % p)
period_case p n e = ap (λ (b : Bool). cond b (2 ^ 64 - 1) (n + (p - n % p))) e

none_case : (p n : ℕ) → nat_eq p 0 ≡ true → next_due p n ≡ 2 ^ 64 - 1
none_case p n e = ap (λ (b : Bool). cond b (2 ^ 64 - 1) (n + (p - n % p))) e

not_zero : (p : ℕ) → nat_eq p 0 ≡ false → 0 < p
not_zero p e = grind (arith, e)

is_zero : (k : ℕ) → k ≡ 0 → nat_eq k 0 ≡ true
is_zero k e = grind (arith, e)

is_not_zero : (k : ℕ) → 0 < k → nat_eq k 0 ≡ false
is_not_zero k e = grind (arith, e)

due_is : (p steps : ℕ) (b c : Bool) → nat_eq p 0 ≡ b → nat_eq (steps % p) 0 ≡ c → is_due p steps
    ≡ (not b && c)
due_is p steps b c e f = ap (λ (x : Bool). not x && nat_eq (steps % p) 0) e
    ∙ ap (λ (x : Bool). not b && x) f

-- at that count a sample is wanted
pub due_now : (p n steps : ℕ) → steps ≡ n + 1 → steps ≤ 2 ^ 62 → steps ≡ next_due p n →
    is_due p steps ≡ true
due_now p n steps at few due = elim (nat_eq p 0) as (λ b. nat_eq p 0 ≡ b → is_due p steps ≡ true) [
  | true ↦ λ e. absurd (omega (arith, few, due, none_case p n e))
  | false ↦ λ e.
      let some = not_zero p e in
      let last : n % p + 1 ≡ p = omega (arith, at, due, period_case p n e, mod_below n p some) in
      due_is p steps false true e (is_zero (steps % p) (ap (λ (k : ℕ). k % p) at
      ∙ below_next p n some last))
] refl

-- at a count before it none is, and it stays the next
pub due_later : (p n steps : ℕ) → steps ≡ n + 1 →
    (steps ≡ next_due p n → ⊥) → is_due p steps ≡ false
due_later p n steps at other = elim (nat_eq p 0) as (λ b. nat_eq p 0 ≡ b → is_due p steps ≡ false) [
  | true ↦ λ e. due_is p steps true (nat_eq (steps % p) 0) e refl
  | false ↦ λ e.
      let some = not_zero p e in
      let not_last : n % p + 1 ≡ p → ⊥ =
      λ last. other (omega (arith, at, period_case p n e, last)) in
      let few : n % p + 1 < p = grind (arith, mod_below n p some, not_last) in
      let rest : steps % p ≡ n % p + 1 = ap (λ (k : ℕ). k % p) at ∙ not_yet p n few in
      due_is p steps false false e (is_not_zero (steps % p) (omega (arith, rest)))
] refl

pub due_stays : (p n steps : ℕ) → steps ≡ n + 1 →
    (steps ≡ next_due p n → ⊥) → next_due p n ≡ next_due p steps
due_stays p n steps at other = elim (nat_eq p 0) as (λ b. nat_eq p 0 ≡ b → next_due p n
    ≡ next_due p steps) [
      | true ↦ λ e. none_case p n e ∙ sym (none_case p steps e)
      | false ↦ λ e.
          let some = not_zero p e in
          let not_last : n % p + 1 ≡ p → ⊥ =
          λ last. other (omega (arith, at, period_case p n e, last)) in
          let few : n % p + 1 < p = grind (arith, mod_below n p some, not_last) in
          let rest : steps % p ≡ n % p + 1 = ap (λ (k : ℕ). k % p) at ∙ not_yet p n few in
          omega (arith, at, few, rest, period_case p n e, period_case p steps e)
    ] refl
