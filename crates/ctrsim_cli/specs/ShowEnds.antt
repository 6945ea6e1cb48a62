-- What holds when the word `show` was followed, by the fault.
use Rattle.std.specs.Prelude.{◌≡◌, ℕ, false, List, Option, Some, None}
use Rattle.ctr_port.specs.Sink.{GainsPart}
use Rattle.perf_sample.specs.Layout.{LayoutWords}
use Rattle.perf_sample.specs.Reading.{is_read}
use Rattle.perf_sample.specs.declared.faults.SampleFault.TheVariants as sample_fault
use Rattle.ctrsim_cli.specs.declared.fault.Fault.{Fault}
use Rattle.ctrsim_cli.specs.declared.fault.Fault.TheVariants.{ReadFault, WriteFault, Sample}
use Rattle.ctrsim_cli.specs.Showing.{AllShown, Refused, Unwritten, TakenShown, Shown}

-- of any source: all bytes were samples and their texts were written; or those of the samples
-- before the offset where the bytes are none; or those before a failed read; or the sink failed
-- inside one
abbrev pub ShowEnds : {K : Type 0} → (K → List ℕ → K → Type 0) → LayoutWords
    → Option (List ℕ) → Option (List ℕ) → K → K → Option Fault → Type 0
ShowEnds gained layout left left' old new None = AllShown gained layout left left' old new
ShowEnds gained layout left left' old new (Some (Sample at fault)) =
    (is_read fault ≡ false) × Refused gained layout left left' old new fault at
ShowEnds gained layout left left' old new (Some ReadFault) =
    (at : ℕ) × Refused gained layout left left' old new sample_fault.ReadFault at
ShowEnds gained layout left left' old new (Some WriteFault) =
    Unwritten gained layout left left' old new
ShowEnds gained layout left left' old new (Some _) = ⊥

-- of these bytes: the text of the longest join of spellings that they begin with, or a proper
-- prefix of it where the sink failed; after a failed read, that of the bytes that were taken
abbrev pub ShowsBytes : {K : Type 0} → (K → List ℕ → K → Type 0) → LayoutWords → List ℕ
    → Option (List ℕ) → K → K → Option Fault → Type 0
ShowsBytes gained layout bytes left' old new None =
    (text : List ℕ) × Shown layout bytes text × gained old text new
ShowsBytes gained layout bytes left' old new (Some (Sample at fault)) =
    (text : List ℕ) × Shown layout bytes text × gained old text new
ShowsBytes gained layout bytes left' old new (Some ReadFault) =
    TakenShown gained layout (Some bytes) left' old new
ShowsBytes gained layout bytes left' old new (Some WriteFault) =
    (text : List ℕ) → Shown layout bytes text → GainsPart gained old new text
ShowsBytes gained layout bytes left' old new (Some _) = ⊥
