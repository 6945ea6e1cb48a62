use Rattle.std.proofs.Common.{arith}
use Rattle.replay_engine.proofs.Lifts.{Left, left_all, room_left, within_harts}
use Rattle.replay_engine.specs.View.{view_of}
use Rattle.replay_engine.proofs.tasks.Tasks.leave.Goals as goal

pub returns : goal.returns
returns c =
    let ts = c.args.self.now in
    let hs = c.args.harts.now in
    let all : Left ts c.save_off.new.self hs c.save_off.new.harts c.args.t c.args.h =
    left_all ts c.save_off.new.self hs c.save_off.new.harts c.args.t c.args.h c.requires.kept
    c.requires.there
    c.save_off.ensures.task c.save_off.ensures.hart c.save_off.ensures.holds in
    record {
      view = all.view;
      kept = all.kept;
      places = all.seats;
      others = all.others;
      residents = all.homes;
      room = λ n room. room_left n c.args.t c.args.h (view_of ts hs) _ all.view room;
    }

-- src/tasks.rt:84:9
pub save_off-requires-clause-hart : goal.save_off-requires-clause-hart
save_off-requires-clause-hart c =
    omega (
      arith,
      within_harts c.args.self.now c.args.harts.now c.args.t c.args.h c.requires.kept
          c.requires.there,
    )
