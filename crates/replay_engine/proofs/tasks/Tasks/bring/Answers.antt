use Rattle.std.proofs.Common.{sym, ap, ◌∙◌, arith}
use Rattle.std.specs.Prelude.{Some}
use Rattle.std.proofs.lemmas.List.{length-map}
use Rattle.replay_engine.specs.Tasks.{places, place_of}
use Rattle.replay_engine.proofs.Items.{get_there}
use Rattle.replay_engine.proofs.Brings.{at_same}
use Rattle.replay_engine.proofs.tasks.Tasks.bring.Goals as goal

pub returns-else-not-is_there-clause-there : goal.returns-else-not-is_there-clause-there
returns-else-not-is_there-clause-there c =
    let q = get_there (places c.args.self.now) c.args.t
    (omega (arith, c.requires.task, length-map c.args.self.now place_of)) in
    q.1 ∙ ap Some (at_same q.0 c.args.h (sym (c.if-not-is_there.ensures q.0 q.1)))
