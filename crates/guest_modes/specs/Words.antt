-- Words of registers: which bits one keeps, one bit of it, and several fields written one after another.
use Rattle.std.specs.Prelude.{◌≡◌, ◌≢◌, ℕ, ◌/◌, ◌%◌, ◌^◌, Bool, cond, nat_eq, List, [], ◌∷◌, bit_and}
use Rattle.ctr_bits.specs.Field.{field_of, with_field}

-- the word has no bit outside of the mask
abbrev pub IsWithin : ℕ → ℕ → Type 0
IsWithin mask word = bit_and word mask ≡ word

-- whether a bit of the word is 1
abbrev pub is_on : ℕ → ℕ → Bool
is_on word place = nat_eq (word / 2 ^ place % 2) 1

-- a field of a word with its new value
pub record Put : Type 0 where
  pub lo : ℕ
  pub len : ℕ
  pub value : ℕ

abbrev pub put : ℕ → ℕ → ℕ → Put
put lo len value = record { lo = lo; len = len; value = value }

abbrev pub with_fields : ℕ → List Put → ℕ
with_fields word [] = word
with_fields word (p ∷ ps) = with_fields (with_field p.lo p.len word p.value) ps

-- what mstatus can keep (Privileged Architecture, "Machine Status Registers"): SIE 1, MIE 3, SPIE 5, MPIE 7, SPP 8,
-- MPP 12:11 and MPV 39, and the reserved value 2 never stands in MPP
pub record IsStatus (word : ℕ) : Type 0 where
  pub kept : IsWithin 0x80000019AA word
  pub known : field_of 11 2 word ≢ 2

-- mstatus after a write: MPP is kept where the reserved value is written to it
abbrev pub status_written : ℕ → ℕ → ℕ
status_written old value =
    let kept = bit_and value 0x80000019AA in
    cond (nat_eq (field_of 11 2 kept) 2) (with_field 11 2 kept (field_of 11 2 old)) kept
