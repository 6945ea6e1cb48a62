use Rattle.ctr_csrs.specs.RegisterLaws.{depth_comes_back, entries_in_range, entries_tell_depth, pointer_comes_back, frozen_comes_back}
use Rattle.ctr_csrs.proofs.laws.register_laws.Goals as goal

pub returns : goal.returns
returns c = record {
  depth_comes_back = depth_comes_back;
  entries_in_range = entries_in_range;
  entries_tell_depth = entries_tell_depth;
  pointer_comes_back = pointer_comes_back;
  frozen_comes_back = frozen_comes_back;
}
