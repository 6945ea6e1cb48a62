-- How far the counts of harts and tasks have come.
use Rattle.std.specs.Prelude.{◌≡◌, ℕ, ◌^◌, ◌≤◌, slice_get, Some}
use Rattle.replay_engine.specs.Tasks.{PresentState}
use Rattle.replay_engine.specs.View.{View}

-- no hart has more accesses or steps, and no task has made more steps
pub record CountsWithin (accesses steps counts : ℕ) (v : View) : Type 0 where
  pub few_accesses : (h k : ℕ) → slice_get v.accesses h ≡ Some k → k ≤ accesses
  pub few_steps : (h k : ℕ) → slice_get v.steps h ≡ Some k → k ≤ steps
  pub few_counts : (t : ℕ) (p : PresentState) → slice_get v.present_states t ≡ Some p →
      p.steps ≤ counts

-- so many accesses at most, and steps that leave room for those of a run
abbrev pub CountsHaveRoom : ℕ → View → Type 0
CountsHaveRoom accesses v = CountsWithin accesses (2 ^ 61) (2 ^ 61) v
