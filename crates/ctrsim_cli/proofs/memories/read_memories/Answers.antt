use Rattle.std.proofs.Common.{ℕ, List, [], ◌∷◌, ◌++◌, ap, ◌∙◌, subst, take, get_or, arith, refl}
use Rattle.std.proofs.lemmas.Result.{err_from_is_err_and}
use Rattle.ctr_port.specs.InHand.{text_of}
use Rattle.rv_hart.specs.Facts.{AreBytes}
use Rattle.rv_hart.specs.Memory.{memory_of}
use Rattle.sched_text.specs.Outcomes.{total}
use Rattle.sched_text.specs.declared.schedule.TaskLine.{TaskLine}
use Rattle.sched_text.proofs.JoinLaws.{stops_short, fits_in}
use Rattle.ctrsim_cli.proofs.Images.{first_none, one_more, only_behind}
use Rattle.ctrsim_cli.proofs.memories.read_memories.Goals as goal

pub loop-task-init : goal.loop-task-init
loop-task-init g c = record {
  open_ = c.requires.open;
  line = refl;
  commands = refl;
  ended = refl;
  read = first_none c.args.tasks.now c.new-mems.result _ c.new-mems.ensures;
  later = omega arith;
}

pub loop-task-preserved : goal.loop-task-preserved
loop-task-preserved g c =
    let inv = c.loop-task.invariant in
    let tasks = c.args.tasks.now in
    let i = c.loop-task.task-index in
    let d : TaskLine = record { image = 0; mem = 0; depth = 0; mctrctl = 0; vsctrctl = 0; period = 0 } in
    record {
      open_ = c.in_ok-image.ensures.refused;
      line = c.in_ok-image.ensures.same.0 ∙ inv.line;
      commands = c.in_ok-image.ensures.same.1 ∙ inv.commands;
      ended = c.in_ok-image.ensures.same.2 ∙ inv.ended;
      read = one_more c.loop-task.reader.line i d tasks c.loop-task.mems c.add_memory.new.mems c.in_ok-image.image
          (text_of c.args.reader.now.hand (g.S.Source.left c.args.source.now)) (text_of c.loop-task.reader.hand (g.S.Source.left c.loop-task.source)) (text_of c.image.new.self.hand (g.S.Source.left c.image.new.source))
          c.loop-task-test.true (omega (arith, c.in_ok-image.ensures.size, (c.requires.tasks i d c.loop-task-test.true).image)) inv.read (c.in_ok-image.ensures.images inv.open_) (c.in-Ok.ensures.added ∙ ap (λ (bs : List ℕ). c.loop-task.mems ++ memory_of bs (get_or tasks i d).mem ∷ []) c.items.ensures) (subst AreBytes c.items.ensures c.add_memory.ensures.bytes);
      later = omega (arith, inv.later, c.in_ok-image.ensures.cause);
    }

pub returns-in_err-image-clause-answer : goal.returns-in_err-image-clause-answer
returns-in_err-image-clause-answer g c =
    let inv = c.loop-task.invariant in
    let tasks = c.args.tasks.now in
    let i = c.loop-task.task-index in
    let p = err_from_is_err_and c.from_residual.result c.from_residual.ensures.1 in
    rw (p.1, p.2) (stops_short c.in_err-image.field-0.0 c.args.reader.now.line c.loop-task.reader.line (total (take i tasks)) _ (total tasks)
    (text_of c.args.reader.now.hand (g.S.Source.left c.args.source.now)) (text_of c.loop-task.reader.hand (g.S.Source.left c.loop-task.source)) (text_of c.image.new.self.hand (g.S.Source.left c.image.new.source))
    c.image.new.self.hand inv.line (fits_in tasks i _ c.loop-task-test.true) (only_behind tasks inv.read.images (total (take i tasks)) _ _ inv.read.there) (c.in_err-image.ensures.images inv.open_))
