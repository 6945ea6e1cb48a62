use Rattle.std.proofs.lemmas.Result.{err_from_is_err_and}
use Rattle.std.proofs.Common.{take}
use Rattle.ctr_port.specs.InHand.{text_of}
use Rattle.sched_text.specs.Outcomes.{total}
use Rattle.sched_text.proofs.JoinLaws.{stops_short, fits_in}
use Rattle.sched_text.proofs.outcomes.images.Goals as goal

pub returns-in_err-image-clause-passed : goal.returns-in_err-image-clause-passed
returns-in_err-image-clause-passed g c =
    let inv = c.loop-task.invariant in
    let tasks = c.args.tasks.now in
    let i = c.loop-task.task-index in
    let p = err_from_is_err_and c.from_residual.result c.from_residual.ensures.1 in
    rw (p.1, p.2) (stops_short c.in_err-image.field-0.0 c.args.reader.now.line c.loop-task.reader.line (total (take i tasks)) _ (total tasks)
    (text_of c.args.reader.now.hand (g.S.Source.left c.args.source.now)) (text_of c.loop-task.reader.hand (g.S.Source.left c.loop-task.source)) (text_of c.image.new.self.hand (g.S.Source.left c.image.new.source))
    c.image.new.self.hand inv.line (fits_in tasks i _ c.loop-task-test.true) inv.passed (c.in_err-image.ensures.images inv.open_))
