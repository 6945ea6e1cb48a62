-- What the contracts of the sink over memory say of it.
use Rattle.std.specs.Prelude.{◌≡◌, ℕ, ◌-◌, List, [], ◌++◌, length, take}
use Rattle.std.proofs.Common.{sym, ◌∙◌, ap, append-nil, append_assoc}
use Rattle.ctr_port.specs.Script.{Plan}
use Rattle.ctr_port.specs.declared.memory_sink.MemSink.{MemSink}

-- the bytes that a sink holds
abbrev pub held_of : MemSink → List ℕ
held_of s = take s.len s.bytes.items

-- how many more bytes a sink can hold
abbrev pub room_of : MemSink → ℕ
room_of s = length s.bytes.items - s.len

abbrev pub sink_plan : MemSink → Plan
sink_plan s = s.script

abbrev pub sink_faults : MemSink → ℕ
sink_faults s = s.faults

-- nothing appended leaves what was held, and bytes appended one after the other are appended
-- together
pub held_nothing : (a : List ℕ) → a ≡ a ++ []
held_nothing a = sym (append-nil a)

pub held_then : (a b c x y : List ℕ) → b ≡ a ++ x → c ≡ b ++ y → c ≡ a ++ (x ++ y)
held_then a b c x y p q = q ∙ ap (λ (t : List ℕ). t ++ y) p ∙ append_assoc a x y
