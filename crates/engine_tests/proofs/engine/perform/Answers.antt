use Rattle.std.proofs.Common.{◌*◌, ◌^◌}
use Rattle.engine_tests.proofs.PlayedLemmas.{played_after}
use Rattle.engine_tests.proofs.engine.perform.Goals as goal

pub returns : goal.returns
returns c =
    let m = c.args.performed in
    played_after m c.perform.new.self.tasks c.perform.new.harts c.perform.ensures.places
    (c.perform.ensures.counts (m * 2 ^ 40) (m * 1000000000) (m * 1000000000) c.requires.played.counts)
