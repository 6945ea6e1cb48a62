-- What the contracts of the source over memory say of it.
use Rattle.std.specs.Prelude.{ℕ, List, drop}
use Rattle.ctr_port.specs.Script.{Plan}
use Rattle.ctr_port.specs.declared.memory_source.MemSource.{MemSource}

-- the bytes that a source has left
abbrev pub left_of : MemSource → List ℕ
left_of s = drop s.at s.bytes.items

abbrev pub source_plan : MemSource → Plan
source_plan s = s.script

abbrev pub source_faults : MemSource → ℕ
source_faults s = s.faults
