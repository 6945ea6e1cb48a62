use Rattle.std.proofs.lemmas.Result.{err_from_is_err_and}
use Rattle.std.proofs.Common.{◌∙◌, ℕ, take, sym, subst}
use Rattle.ctr_port.specs.InHand.{text_of, Of}
use Rattle.sched_text.specs.Outcomes.{total, IsImage}
use Rattle.sched_text.proofs.JoinLaws.{stops_short, fits_in, image_is}
use Rattle.sched_text.proofs.outcomes.one_image.Goals as goal

pub returns-in_err-image-clause-answer : goal.returns-in_err-image-clause-answer
returns-in_err-image-clause-answer g c =
    let inv = c.loop-task.invariant in
    let tasks = c.args.tasks.now in
    let i = c.loop-task.task-index in
    let p = err_from_is_err_and c.from_residual.result c.from_residual.ensures.1 in
    rw (p.1, p.2) (stops_short c.in_err-image.field-0.0 c.args.reader.now.line c.loop-task.reader.line (total (take i tasks)) _ (total tasks)
    (text_of c.args.reader.now.hand (g.S.Source.left c.args.source.now)) (text_of c.loop-task.reader.hand (g.S.Source.left c.loop-task.source)) (text_of c.image.new.self.hand (g.S.Source.left c.image.new.source))
    c.image.new.self.hand inv.line (fits_in tasks i _ c.loop-task-test.true) inv.passed (c.in_err-image.ensures.images inv.open_))

pub returns-then-at-which-clause-answer : goal.returns-then-at-which-clause-answer
returns-then-at-which-clause-answer g c =
    let inv = c.loop-task.invariant in
    let tasks = c.args.tasks.now in
    let x = text_of c.args.reader.now.hand (g.S.Source.left c.args.source.now) in
    let z = text_of c.image.new.self.hand (g.S.Source.left c.image.new.source) in
    subst (λ (k : ℕ). Of x z (λ t t'. IsImage tasks k c.in_ok-image.image t)) (sym inv.at ∙ c.if-at-which.true)
    (image_is c.loop-task.reader.line c.loop-task.task-index _ tasks c.in_ok-image.image x (text_of c.loop-task.reader.hand (g.S.Source.left c.loop-task.source)) z
    c.loop-task-test.true inv.passed (c.in_ok-image.ensures.images inv.open_))
