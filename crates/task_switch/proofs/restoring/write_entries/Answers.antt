use Rattle.std.proofs.Common.{rules, ◌≡◌, ◌<◌, length, slice_index_or, arith, ◌∙◌}
use Rattle.std.proofs.lemmas.List.{get_or_default}
use Rattle.ctr_buffer.specs.Entry.{zero_entry}
use Rattle.task_switch.proofs.Entries.{filled_more}
use Rattle.task_switch.proofs.restoring.write_entries.Goals as goal

pub loop-slot-preserved : goal.loop-slot-preserved
loop-slot-preserved g c =
    let u0 = g.P.CtrPort.unit c.args.port.now in
    let xs = c.args.slots.now in
    let j = c.loop-slot.slot-index in
    let in_ys : j < length u0.stack.slots = omega (arith, c.requires.all, c.requires.full, c.loop-slot-test.true) in
    let is : c.slot-item.result ≡ slice_index_or xs j zero_entry = c.slot-item.is ∙ get_or_default xs j _ zero_entry c.loop-slot-test.true in
    record {
      at = search rules;
      unit = filled_more u0 (g.P.CtrPort.unit c.loop-slot.port) (g.P.CtrPort.unit c.write_entry.new.port) c.loop-slot.i j xs c.slot-item.result c.loop-slot.invariant.at is c.loop-slot-test.true in_ys
          c.loop-slot.invariant.unit c.write_entry.ensures.unit;
      count = search rules;
      rest = search rules;
    }
