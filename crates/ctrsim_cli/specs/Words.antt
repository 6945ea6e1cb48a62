-- What the words of a call ask for.
use Rattle.std.specs.Prelude.{◌≡◌, ℕ, ◌≤◌, List, [], ◌∷◌, codes, string_bytes, ⊤}
use Rattle.std.specs.declared.string.String.{String}
use Rattle.perf_sample.specs.Layout.{LayoutWords, IsLayout, IsBranchWord}
use Rattle.ctrsim_cli.specs.Numbers.{IsDecimal, IsHexadecimal}
use Rattle.ctrsim_cli.specs.declared.words.Word.{Word}
use Rattle.ctrsim_cli.specs.declared.words.Word.TheVariants.{Run, Show, Demo}

-- the one word `run`
abbrev pub IsRun : {A : Type 0} → List (String A) → Type 0
IsRun [] = ⊥
IsRun (word ∷ []) = string_bytes word ≡ codes "run"
IsRun (word ∷ (other ∷ words)) = ⊥

-- 1 to 16 hexadecimal digits that say which fields a sample has
abbrev pub IsTypeWord : {A : Type 0} → String A → ℕ → Type 0
IsTypeWord word bits = IsHexadecimal (string_bytes word) bits × IsLayout bits

-- and the branch word
abbrev pub IsBranch : {A : Type 0} → String A → ℕ → Type 0
IsBranch word bits = IsHexadecimal (string_bytes word) bits × IsBranchWord bits

-- `show HEX`, whose branch word is 0, or `show HEX BRANCH`
abbrev pub IsShow : {A : Type 0} → List (String A) → LayoutWords → Type 0
IsShow [] layout = ⊥
IsShow (word ∷ []) layout = ⊥
IsShow (word ∷ (hex ∷ [])) layout =
    (string_bytes word ≡ codes "show") × IsTypeWord hex layout.sample_type × (layout.branch ≡ 0)
IsShow (word ∷ (hex ∷ (branch ∷ []))) layout =
    (string_bytes word ≡ codes "show") × IsTypeWord hex layout.sample_type
    × IsBranch branch layout.branch
IsShow (word ∷ (hex ∷ (branch ∷ (more ∷ words)))) layout = ⊥

-- `demo N`: 1 to 6 decimal digits, of a value from 1 to 100,000
pub record IsTurns {A : Type 0} (word : String A) (turns : ℕ) : Type 0 where
  pub digits : IsDecimal 6 (string_bytes word) turns
  pub some : 1 ≤ turns
  pub most : turns ≤ 100000

abbrev pub IsDemo : {A : Type 0} → List (String A) → ℕ → Type 0
IsDemo [] turns = ⊥
IsDemo (word ∷ []) turns = ⊥
IsDemo (word ∷ (number ∷ [])) turns =
    (string_bytes word ≡ codes "demo") × IsTurns number turns
IsDemo (word ∷ (number ∷ (more ∷ words))) turns = ⊥

-- the words ask for this
abbrev pub IsAsked : {A : Type 0} → List (String A) → Word → Type 0
IsAsked words Run = IsRun words
IsAsked words (Show layout) = IsShow words layout
IsAsked words (Demo turns) = IsDemo words turns

-- they ask for something
abbrev pub IsKnown : {A : Type 0} → List (String A) → Type 0
IsKnown words = (word : Word) × IsAsked words word

-- the turns of a word are few enough
abbrev pub IsWithin : Word → Type 0
IsWithin Run = ⊤
IsWithin (Show layout) = ⊤
IsWithin (Demo turns) = turns ≤ 100000
