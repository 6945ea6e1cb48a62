-- Where a task is after some commands, in words: the last run of the task names the hart, and after
-- it no run of another task names that hart and no evict does.
use Rattle.std.specs.Prelude.{◌≡◌, ℕ, Bool, true, not, ◌&&◌, nat_eq, List, ◌∷◌, ◌++◌}
use Rattle.std.specs.List.{AllByRecursion}
use Rattle.sched_text.specs.declared.schedule.Command.{Command}
use Rattle.sched_text.specs.declared.schedule.Command.TheVariants.{Run, Sample as Sampled, Evict}
use Rattle.sched_text.specs.declared.schedule.Command.TheVariants.{End}

-- a command that is no run of the task, no run on the hart, and no evict of the hart
abbrev pub keeps : ℕ → ℕ → Command → Bool
keeps t h (Run g u n) = not (nat_eq u t) && not (nat_eq g h)
keeps t h (Sampled u) = true
keeps t h (Evict g) = not (nat_eq g h)
keeps t h End = true

abbrev pub AllKeep : ℕ → ℕ → List Command → Type 0
AllKeep t h cs = AllByRecursion (λ c. keeps t h c ≡ true) cs

-- the task is on the hart after the commands
pub record IsOn (cs : List Command) (t h : ℕ) : Type 0 where
  pub before : List Command
  pub steps : ℕ
  pub later : List Command
  pub are : cs ≡ before ++ Run h t steps ∷ later
  pub keep : AllKeep t h later
