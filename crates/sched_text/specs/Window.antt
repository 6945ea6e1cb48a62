-- What a read does to the bytes in hand.
use Rattle.std.specs.Prelude.{◌≡◌, ℕ, ◌<◌, ◌≤◌, List, ◌++◌, length, ⊤}
use Rattle.std.specs.declared.option.Option.{Option}
use Rattle.std.specs.Io.KnownBytes.{Consumes, Keeps, IsAtEnd}
use Rattle.ctr_port.specs.declared.ends.Got.{Got}
use Rattle.ctr_port.specs.declared.ends.Got.TheVariants as got

-- a read put the next bytes behind those in hand, found the end, or took nothing
abbrev pub Fills : Option (List ℕ) → Option (List ℕ) → List ℕ → List ℕ → Got → Type 0
Fills left left' hand hand' (got.Bytes n) =
    (piece : List ℕ)
    × (0 < length piece)
    × (hand' ≡ hand ++ piece)
    × Consumes left left' piece
    × (length piece ≡ n)
Fills left left' hand hand' got.End = (hand' ≡ hand) × Keeps left left' × IsAtEnd left'
Fills left left' hand hand' got.Failed = (hand' ≡ hand) × Keeps left left'

-- a read gave so many bytes at most
abbrev pub IsAtMost : ℕ → Got → Type 0
IsAtMost most (got.Bytes n) = n ≤ most
IsAtMost most got.End = ⊤
IsAtMost most got.Failed = ⊤
