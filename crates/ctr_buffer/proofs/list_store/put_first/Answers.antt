use Rattle.ctr_buffer.proofs.Moves.{put_first_list}
use Rattle.ctr_buffer.proofs.list_store.put_first.Goals as goal

pub returns : goal.returns
returns c = put_first_list c.args.slots.now c.rotate_right.new.self c.args.s c.requires c.rotate_right.ensures.after
