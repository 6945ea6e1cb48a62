use Rattle.replay_engine.proofs.Lifts.{Arrived, arrived_all, room_arrived}
use Rattle.replay_engine.specs.View.{view_of}
use Rattle.replay_engine.proofs.tasks.Tasks.arrive.Goals as goal

pub returns : goal.returns
returns c =
    let ts = c.args.self.now in
    let hs = c.args.harts.now in
    let all : Arrived ts c.restore_on.new.self hs c.restore_on.new.harts c.args.t c.args.h =
    arrived_all ts c.restore_on.new.self hs c.restore_on.new.harts c.args.t c.args.h
    c.requires.kept c.requires.nowhere c.requires.free
    c.restore_on.ensures.task c.restore_on.ensures.hart in
    record {
      view = all.view;
      kept = all.kept;
      others = all.others;
      places = all.seats;
      room = λ n room. room_arrived n c.args.t c.args.h (view_of ts hs) _ all.view room;
    }
