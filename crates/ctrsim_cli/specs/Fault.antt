-- What the answers of the top call are called: their statuses, and what is said of a fault.
use Rattle.std.specs.Prelude.{ℕ, List, [], ◌∷◌, ◌++◌, Option, None, Some, codes}
use Rattle.perf_sample.specs.declared.faults.Place.{Place}
use Rattle.perf_sample.specs.declared.faults.Place.TheVariants as place
use Rattle.perf_sample.specs.declared.faults.SampleFault.{SampleFault}
use Rattle.perf_sample.specs.declared.faults.SampleFault.TheVariants as sample
use Rattle.ctrsim_cli.specs.declared.fault.Fault.{Fault}
use Rattle.sched_text.specs.declared.faults.Reason.{Reason}
use Rattle.sched_text.specs.declared.faults.Reason.TheVariants as reason
use Rattle.ctrsim_cli.specs.declared.fault.Fault.TheVariants.{Usage, ReadFault, WriteFault, Line}
use Rattle.ctrsim_cli.specs.declared.fault.Fault.TheVariants.{Memory, Sample}
use Rattle.ctrsim_cli.specs.SampleText.{dec}

abbrev pub status_of : Option Fault → ℕ
status_of None = 0
status_of (Some Usage) = 2
status_of (Some ReadFault) = 3
status_of (Some WriteFault) = 4
status_of (Some (Line f)) = 5
status_of (Some (Sample at fault)) = 6
status_of (Some Memory) = 7

-- the name of a field, with the number of its branch
unfoldable pub place_text : Place → List ℕ
place_text place.Identifier = codes "identifier"
place_text place.Ip = codes "ip"
place_text place.Tid = codes "tid"
place_text place.Time = codes "time"
place_text place.Addr = codes "addr"
place_text place.Id = codes "id"
place_text place.StreamId = codes "stream_id"
place_text place.Cpu = codes "cpu"
place_text place.Period = codes "period"
place_text place.Nr = codes "nr"
place_text place.HwIndex = codes "hw_index"
place_text (place.From i) = codes "from " ++ dec i
place_text (place.To i) = codes "to " ++ dec i
place_text (place.Flags i) = codes "flags " ++ dec i

-- why bytes are no sample
unfoldable pub broken_text : SampleFault → List ℕ
broken_text sample.Header = codes "header cut"
broken_text sample.Kind = codes "not a sample"
broken_text sample.Size = codes "wrong size"
broken_text (sample.Short p) = codes "cut in " ++ place_text p
broken_text sample.CpuReserved = codes "reserved cpu bytes"
broken_text sample.Count = codes "too many branches"
broken_text (sample.FlagReserved i) = codes "reserved flags in branch " ++ dec i
broken_text sample.TooMany = codes "too many samples"
broken_text sample.ReadFault = codes "cannot read"

-- why a line is refused
unfoldable pub reason_text : Reason → List ℕ
reason_text reason.LongLine = codes "too long"
reason_text reason.Cut = codes "input ended"
reason_text reason.NotWord = codes "unexpected words"
reason_text reason.NotNumber = codes "not a number"
reason_text reason.Range = codes "out of range"
reason_text reason.TooMany = codes "too many"
reason_text reason.NoTask = codes "no such task"
reason_text reason.NoHart = codes "no such hart"
reason_text reason.NotResident = codes "task is on no hart"
reason_text reason.EmptyHart = codes "hart has no task"
reason_text reason.IrqOrder = codes "interrupts out of order"
reason_text reason.Trailing = codes "input goes on"

abbrev pub text_of : Fault → List ℕ
text_of Usage = codes "usage: ctrsim run | show HEX [BRANCH] | demo N"
text_of ReadFault = codes "cannot read"
text_of WriteFault = codes "cannot write"
text_of Memory = codes "no memory"
text_of (Line f) = codes "line " ++ dec f.line ++ codes ": " ++ reason_text f.reason
text_of (Sample at fault) = codes "sample at " ++ dec at ++ codes ": " ++ broken_text fault

-- one line, with the program's name before it
unfoldable pub said : Fault → List ℕ
said fault = codes "ctrsim: " ++ text_of fault ++ 10 ∷ []

-- nothing is said where there is no fault
abbrev pub said_if : Option Fault → List ℕ
said_if None = []
said_if (Some fault) = said fault
