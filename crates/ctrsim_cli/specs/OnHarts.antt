-- What was read on harts that nothing is known of: commands were performed on them one after the
-- other, and the sink gained the bytes that were read in them.
use Rattle.std.specs.Prelude.{◌≡◌, ◌⊎◌, ℕ, List, [], ◌∷◌, ◌++◌, Option, Some, None, Result, Ok, Err}
use Rattle.ctr_port.specs.Sink.{GainsPart}
use Rattle.replay_engine.specs.declared.fault.PerformFault.{PerformFault}
use Rattle.sched_text.specs.declared.schedule.Command.{Command}
use Rattle.ctrsim_cli.specs.declared.fault.Fault.{Fault}
use Rattle.ctrsim_cli.specs.declared.fault.Fault.TheVariants.{WriteFault, Memory}
use Rattle.ctrsim_cli.specs.Counted.{none_counted, counted}
use Rattle.ctrsim_cli.specs.Demo.{summary_line, turns}
use Rattle.ctrsim_cli.specs.declared.counting.Counter.{Counter}

-- each of the commands was performed, of an engine and harts that the one before it left, and these
-- are the bytes that were read in them, joined
abbrev pub Chain : {E H : Type 0} →
    (E → H → Command → Result (Unit {0}) PerformFault → List ℕ → E → H → Type 0) → List Command →
    E → H → List ℕ → E → H → Type 0
Chain performed [] e a bytes f b = (f ≡ e) × (b ≡ a) × (bytes ≡ [])
Chain {E} {H} performed (c ∷ cs) e a bytes f b = (d : E) × (m : H) × (x : List ℕ) × (y : List ℕ)
    × performed e a c (Ok tt) x d m × Chain performed cs d m y f b × (bytes ≡ x ++ y)

-- then there was no command, or one with another answer
abbrev pub MayStop : {E H : Type 0} →
    (E → H → Command → Result (Unit {0}) PerformFault → List ℕ → E → H → Type 0) → E → H →
    List ℕ → H → Type 0
MayStop {E} {H} performed e a bytes b = ((b ≡ a) × (bytes ≡ []))
    ⊎ ((c : Command) × (why : PerformFault) × (f : E) × performed e a c (Err why) bytes f b)

-- the sink gained the bytes that were read on the harts in these commands, and nothing else
pub record AreReadOn {E H K : Type 0}
    (performed : E → H → Command → Result (Unit {0}) PerformFault → List ℕ → E → H → Type 0)
    (gained : K → List ℕ → K → Type 0) (a b : H) (old new : K) : Type 0 where
  pub first : E
  pub commands : List Command
  pub bytes : List ℕ
  pub engine : E
  pub harts : H
  pub chain : Chain performed commands first a bytes engine harts
  pub rest : List ℕ
  pub stop : MayStop performed engine harts rest b
  pub written : gained old (bytes ++ rest) new

-- or no command was performed, and nothing was written
abbrev pub ReadOnHarts : {E H K : Type 0} →
    (E → H → Command → Result (Unit {0}) PerformFault → List ℕ → E → H → Type 0) →
    (K → List ℕ → K → Type 0) → H → H → K → K → Type 0
ReadOnHarts performed gained a b old new =
    ((b ≡ a) × gained old [] new) ⊎ AreReadOn performed gained a b old new

-- the line of what the bytes come to that were read in so many turns
abbrev pub line_of : Counter → List ℕ
line_of c = summary_line c.samples c.bytes c.branches

pub record TurnsAreReadOn {E H : Type 0}
    (performed : E → H → Command → Result (Unit {0}) PerformFault → List ℕ → E → H → Type 0)
    (n : ℕ) (a b : H) (Written : List ℕ → Type 0) : Type 0 where
  pub first : E
  pub last : E
  pub bytes : List ℕ
  pub chain : Chain performed (turns n) first a bytes last b
  pub written : Written (line_of (counted none_counted bytes))

-- by the fault of the call: that line was written, or a proper prefix of it, or no turn was
-- performed and nothing was written
abbrev pub CountedOnHarts : {E H K : Type 0} →
    (E → H → Command → Result (Unit {0}) PerformFault → List ℕ → E → H → Type 0) →
    (K → List ℕ → K → Type 0) → ℕ → H → H → K → K → Option Fault → Type 0
CountedOnHarts performed gained n a b old new None =
    TurnsAreReadOn performed n a b (λ x. gained old x new)
CountedOnHarts performed gained n a b old new (Some WriteFault) =
    TurnsAreReadOn performed n a b (GainsPart gained old new)
CountedOnHarts performed gained n a b old new (Some Memory) = (b ≡ a) × gained old [] new
CountedOnHarts performed gained n a b old new (Some _) = ⊥
