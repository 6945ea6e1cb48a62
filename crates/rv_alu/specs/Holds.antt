-- When each condition of a branch holds of two words (Unprivileged ISA, conditional branches).
use Rattle.std.specs.Prelude.{ℕ, Bool, not, nat_eq, ltb, leb, int_lt}
use Rattle.rv_decode.specs.declared.operations.Cond.{Cond}
use Rattle.rv_decode.specs.declared.operations.Cond.TheVariants.{Eq, Ne, Lt, Ge, Ltu, Geu}
use Rattle.rv_alu.specs.Signed.{signed}

abbrev pub holds : Cond → ℕ → ℕ → Bool
holds Eq a b = nat_eq a b
holds Ne a b = not (nat_eq a b)
holds Lt a b = int_lt (signed a) (signed b)
holds Ge a b = not (int_lt (signed a) (signed b))
holds Ltu a b = ltb a b
holds Geu a b = leb b a
