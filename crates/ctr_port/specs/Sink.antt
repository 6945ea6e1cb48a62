-- What writes do to a sink, given the sink's relation 'the second state is the first with these
-- bytes appended'.
use Rattle.std.specs.Prelude.{ℕ, ◌<◌, ◌≤◌, List, [], length, take}
use Rattle.ctr_port.specs.declared.ends.Put.{Put}
use Rattle.ctr_port.specs.declared.ends.Put.TheVariants as put

-- a write appended the first n bytes of the piece, or nothing
abbrev pub TakesFront : {S : Type 0} → (S → List ℕ → S → Type 0) → S → S → Put → List ℕ → Type 0
TakesFront gained old new (put.Took n) piece =
    (0 < n) × (n ≤ length piece) × gained old (take n piece) new
TakesFront gained old new put.Failed piece = gained old [] new

-- a proper prefix of the bytes was appended
abbrev pub GainsPart : {S : Type 0} → (S → List ℕ → S → Type 0) → S → S → List ℕ → Type 0
GainsPart gained old new bytes = (n : ℕ) × (n < length bytes) × gained old (take n bytes) new
