use Rattle.task_switch.proofs.Entries.{entry_put}
use Rattle.task_switch.proofs.entry.write_entry.Goals as goal

pub returns-clause-unit : goal.returns-clause-unit
returns-clause-unit g c =
    let unit = g.P.CtrPort.unit in
    rw (← c.slot.view_is)
    (entry_put (unit c.args.port.now) (unit c.set.new.self) (unit c.write_part.new.port) (unit c.write_part-2.new.port) (unit c.write_part-3.new.port)
    c.args.i (record { source = c.slot.inside.source; target = c.slot.inside.target; kind = c.slot.inside.kind })
    c.requires.there c.requires.small (rw c.from.ensures at c.set.ensures.unit)
    c.write_part.ensures.unit c.write_part-2.ensures.unit (rw c.from-2.ensures at c.write_part-3.ensures.unit))
