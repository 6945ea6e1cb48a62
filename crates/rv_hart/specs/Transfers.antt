-- What a transfer does to the control transfer unit (RISC-V Control Transfer Records 1.0).
use Rattle.std.specs.Prelude.{Bool, true, List, [], ◌∷◌, fold}
use Rattle.xfer_class.specs.Types.{code_of}
use Rattle.ctr_rules.specs.declared.transfer.Transfer.{Transfer}
use Rattle.ctr_rules.specs.declared.transfer.Record.{Record}
use Rattle.ctr_rules.specs.declared.transfer.Act.{Act}
use Rattle.ctr_rules.specs.declared.transfer.Act.TheVariants as acts
use Rattle.ctr_rules.specs.Admitted.{act_under}
use Rattle.ctr_buffer.specs.declared.event.Event.{Event}
use Rattle.ctr_buffer.specs.declared.event.Event.TheVariants.{Push, Swap, Pop}
use Rattle.ctr_buffer.specs.Entry.{Entry, recorded_entry}
use Rattle.ctr_buffer.specs.History.{after}
use Rattle.indirect_regs.specs.Unit.{UnitState}

-- a record as an entry
abbrev pub entry_of : Record → Entry
entry_of r = recorded_entry r.source r.target r.misp (code_of r.kind)

-- the events of the record buffer that an act is
abbrev pub events_by : Act → List Event
events_by acts.Nothing = []
events_by (acts.Push r) = Push (entry_of r) ∷ []
events_by acts.Pop = Pop ∷ []
events_by (acts.Swap r) = Swap (entry_of r) ∷ []
events_by acts.Freeze = []

-- FROZEN after an act
abbrev pub frozen_by : Act → Bool → Bool
frozen_by acts.Freeze frozen = true
frozen_by _ frozen = frozen

-- the act of a transfer, under the controls of a unit
abbrev pub act_in : Transfer → UnitState → Act
act_in t u = act_under t u.m u.vs u.frozen

-- the unit after a transfer
abbrev pub transferred : Transfer → UnitState → UnitState
transferred t u =
    let a = act_in t u in
    record u { frozen = frozen_by a u.frozen; stack = fold after u.stack (events_by a) }
