-- Numbers of registers: what holds of each number of the tables.
use Rattle.std.proofs.Common.{ℕ, ◌≡◌, ◌≢◌, ◌+◌, ◌/◌, ◌%◌, Bool, true, ◌||◌, nat_eq, List, [], ◌∷◌, inl, inr, refl, subst}
use Rattle.std.specs.List.{list_all}
use Rattle.std.proofs.lemmas.Bool.{and_parts, or_cases, eqb-true}
use Rattle.guest_modes.specs.Registers.{Row, machine_registers, supervisor_registers, hypervisor_registers, virtual_registers}
use Rattle.guest_modes.specs.Numbers.{is_in, has_row, is_register, is_there, transfer_numbers}

-- a number of the list passes what every number of the list passes
pub passes_in : (test : ℕ → Bool) (ns : List ℕ) (n : ℕ) → is_in n ns ≡ true → list_all test ns ≡ true → test n ≡ true
passes_in test [] n e all = absurd (cc)
passes_in test (m ∷ ms) n e all =
    let parts = and_parts (test m) (list_all test ms) all in
    elim (or_cases (nat_eq m n) (is_in n ms) e) [
      | inl same ↦ subst (λ (k : ℕ). test k ≡ true) (eqb-true m n same) parts.0
      | inr more ↦ passes_in test ms n more parts.1
    ]

pub passes_row : (test : ℕ → Bool) (rs : List Row) (n : ℕ) → has_row n rs ≡ true → list_all (λ r. test r.number) rs ≡ true → test n ≡ true
passes_row test [] n e all = absurd (cc)
passes_row test (r ∷ rs) n e all =
    let parts = and_parts (test r.number) (list_all (λ r. test r.number) rs) all in
    elim (or_cases (nat_eq r.number n) (has_row n rs) e) [
      | inl same ↦ subst (λ (k : ℕ). test k ≡ true) (eqb-true r.number n same) parts.0
      | inr more ↦ passes_row test rs n more parts.1
    ]

-- a number that isn't the hypervisor's or M's, and neither sctrstatus nor sctrdepth, has one for VS 0x100 above
abbrev pub has_guest_register : ℕ → Bool
has_guest_register n =
    nat_eq (n / 256 % 4) 2 || (nat_eq (n / 256 % 4) 3 || (nat_eq n 0x15F || (nat_eq n 0x14F || is_there (n + 0x100))))

pub guest_register_there : (n : ℕ) → is_there n ≡ true → has_guest_register n ≡ true
guest_register_there n there = elim (or_cases (is_in n transfer_numbers) (is_register n) there) [
  | inl transfer ↦ passes_in has_guest_register transfer_numbers n transfer refl
  | inr register ↦ elim (or_cases (has_row n machine_registers) (has_row n supervisor_registers || (has_row n hypervisor_registers || has_row n virtual_registers)) register) [
    | inl machine ↦ passes_row has_guest_register machine_registers n machine refl
    | inr below ↦ elim (or_cases (has_row n supervisor_registers) (has_row n hypervisor_registers || has_row n virtual_registers) below) [
      | inl supervisor ↦ passes_row has_guest_register supervisor_registers n supervisor refl
      | inr other ↦ elim (or_cases (has_row n hypervisor_registers) (has_row n virtual_registers) other) [
        | inl hypervisor ↦ passes_row has_guest_register hypervisor_registers n hypervisor refl
        | inr virtual ↦ passes_row has_guest_register virtual_registers n virtual refl
      ]
    ]
  ]
]

pub moved_is_there : (n : ℕ) → is_there n ≡ true → n / 256 % 4 ≢ 2 → n / 256 % 4 ≢ 3 → n ≢ 0x15F → n ≢ 0x14F → is_there (n + 0x100) ≡ true
moved_is_there n there two three depth status =
    elim (or_cases (nat_eq (n / 256 % 4) 2) (nat_eq (n / 256 % 4) 3 || (nat_eq n 0x15F || (nat_eq n 0x14F || is_there (n + 0x100)))) (guest_register_there n there)) [
      | inl a ↦ absurd (two (eqb-true (n / 256 % 4) 2 a))
      | inr a ↦ elim (or_cases (nat_eq (n / 256 % 4) 3) (nat_eq n 0x15F || (nat_eq n 0x14F || is_there (n + 0x100))) a) [
        | inl b ↦ absurd (three (eqb-true (n / 256 % 4) 3 b))
        | inr b ↦ elim (or_cases (nat_eq n 0x15F) (nat_eq n 0x14F || is_there (n + 0x100)) b) [
          | inl e ↦ absurd (depth (eqb-true n 0x15F e))
          | inr d ↦ elim (or_cases (nat_eq n 0x14F) (is_there (n + 0x100)) d) [
            | inl e ↦ absurd (status (eqb-true n 0x14F e))
            | inr e ↦ e
          ]
        ]
      ]
    ]
