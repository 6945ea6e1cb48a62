use Rattle.std.proofs.Common.{◌∙◌}
use Rattle.ctr_buffer.proofs.Moves.{turn_list}
use Rattle.ctr_buffer.proofs.list_store.turn.Goals as goal

pub returns : goal.returns
returns c = c.rotate_left.ensures.after ∙ turn_list c.args.old c.args.new c.args.slots.now c.requires.old_within c.requires.new_within
