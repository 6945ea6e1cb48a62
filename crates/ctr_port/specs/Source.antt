-- What a read does to the bytes that a source has left.
use Rattle.std.specs.Prelude.{◌≡◌, ℕ, ◌<◌, ◌≤◌, List, [], length, take}
use Rattle.std.specs.declared.option.Option.{Option}
use Rattle.std.specs.Io.KnownBytes.{Consumes, Keeps, IsAtEnd}
use Rattle.ctr_port.specs.Script.{Plan}
use Rattle.ctr_port.specs.declared.ends.Got.{Got}
use Rattle.ctr_port.specs.declared.ends.Got.TheVariants as got

-- a read gave the next n bytes, found the end, or took nothing; the buffer holds them at its front
abbrev pub GivesNext : Option (List ℕ) → Option (List ℕ) → Got → List ℕ → Type 0
GivesNext old new (got.Bytes n) buf = (0 < n) × (n ≤ length buf) × Consumes old new (take n buf)
GivesNext old new got.End buf = IsAtEnd old × Keeps old new × IsAtEnd new
GivesNext old new got.Failed buf = Keeps old new

-- a read into so much room gives a field of eight bytes, by a plan that says nothing of calls and
-- pieces
abbrev pub GivesField : ℕ → List ℕ → Plan → Type 0
GivesField room left plan =
    (room ≡ 8) × (8 ≤ length left) × (plan.failing ≡ []) × (plan.pieces ≡ [])
