-- What bytes are to a stream of records: empty, the spelling of a record with whatever follows it,
-- or broken.
use Rattle.std.specs.Prelude.{◌≡◌, ◌⊎◌, ℕ, List, ◌++◌}
use Rattle.perf_sample.specs.Format.{Format, BreaksBy}

-- the bytes begin with the spelling of one record whose numbers lie in the widths of their fields,
-- and with no other spelling
pub record IsSpelled {T F : Type 0} (format : Format T F) (bytes : List ℕ) : Type 0 where
  pub item : T
  pub spelled : List ℕ
  pub rest : List ℕ
  pub range : format.in_range item
  pub spells : format.spells item spelled
  pub front : bytes ≡ spelled ++ rest
  pub alone : (s : T) (x z : List ℕ) → format.spells s x → bytes ≡ x ++ z → (x ≡ spelled)
      × (format.in_range s → s ≡ item)

-- the bytes break with one fault, at one field
pub record IsBroken {T F : Type 0} (format : Format T F) (bytes : List ℕ) : Type 0 where
  pub fault : F
  pub rest : List ℕ
  pub breaks : BreaksBy format.first_break bytes fault rest
  pub alone : (f : F) (u : List ℕ) → BreaksBy format.first_break bytes f u
      → (f ≡ fault) × (u ≡ rest)

-- exactly one of three holds
pub record ExactlyOne (A B C : Type 0) : Type 0 where
  pub some : A ⊎ (B ⊎ C)
  pub not_first_and_second : A → B → ⊥
  pub not_first_and_third : A → C → ⊥
  pub not_second_and_third : B → C → ⊥
