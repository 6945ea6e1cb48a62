-- What a test of the engine keeps to between commands.
use Rattle.std.specs.Prelude.{ℕ, ◌*◌, ◌^◌, List}
use Rattle.rv_hart.specs.Hart.{HartState}
use Rattle.replay_engine.specs.Counts.{CountsWithin}
use Rattle.replay_engine.specs.Tasks.{TaskState, PlacesAgree}
use Rattle.replay_engine.specs.View.{view_of}

-- the places that the engine keeps agree with the harts, and the counts are those of so many commands at most
pub record IsPlayed (n : ℕ) (ts : List TaskState) (hs : List HartState) : Type 0 where
  pub places : PlacesAgree ts hs
  pub counts : CountsWithin (n * 2 ^ 40) (n * 1000000000) (n * 1000000000) (view_of ts hs)
