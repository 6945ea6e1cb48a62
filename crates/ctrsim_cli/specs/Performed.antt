-- What the parts of the top call leave, by the fault that they answer.
use Rattle.std.specs.Prelude.{◌≡◌, ℕ, ◌≤◌, ◌⊎◌, List, length, take, Option, Some}
use Rattle.ctr_port.specs.Counts.{Rose}
use Rattle.perf_sample.specs.declared.faults.SampleFault.{SampleFault}
use Rattle.perf_sample.specs.declared.faults.SampleFault.TheVariants as sample
use Rattle.ctrsim_cli.specs.declared.fault.Fault.{Fault}
use Rattle.ctrsim_cli.specs.declared.fault.Fault.TheVariants.{ReadFault, WriteFault, Sample}

-- a count rose where this is the fault
abbrev pub ReadCause : ℕ → ℕ → Option Fault → Type 0
ReadCause before now (Some ReadFault) = Rose before now
ReadCause before now _ = Unit {0}

abbrev pub WriteCause : ℕ → ℕ → Option Fault → Type 0
WriteCause before now (Some WriteFault) = Rose before now
WriteCause before now _ = Unit {0}

-- a prefix of the text was appended, and all of it where the count of faults didn't rise
pub record SaidPart {N : Type 0} (gained : N → List ℕ → N → Type 0) (old new : N) (text : List ℕ) (before now : ℕ) : Type 0 where
  pub count : ℕ
  pub within : count ≤ length text
  pub appended : gained old (take count text) new
  pub whole : Rose before now ⊎ (count ≡ length text)

-- the fault of the call that a broken sample is
abbrev pub fault_of : SampleFault → ℕ → Fault
fault_of sample.ReadFault offset = ReadFault
fault_of sample.Header offset = Sample offset sample.Header
fault_of sample.Kind offset = Sample offset sample.Kind
fault_of sample.Size offset = Sample offset sample.Size
fault_of (sample.Short p) offset = Sample offset (sample.Short p)
fault_of sample.CpuReserved offset = Sample offset sample.CpuReserved
fault_of sample.Count offset = Sample offset sample.Count
fault_of (sample.FlagReserved i) offset = Sample offset (sample.FlagReserved i)
fault_of sample.TooMany offset = Sample offset sample.TooMany
