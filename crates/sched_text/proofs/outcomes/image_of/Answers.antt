use Rattle.std.proofs.lemmas.Result.{err_from_is_err_and}
use Rattle.std.proofs.Common.{subst, Err, List}
use Rattle.ctr_port.specs.InHand.{text_of, Of}
use Rattle.sched_text.specs.Header.{HeaderAnswer}
use Rattle.sched_text.specs.Reader.{Reader}
use Rattle.sched_text.specs.declared.schedule.TaskLine.{TaskLine}
use Rattle.sched_text.specs.Outcomes.{TaskImageAnswer}
use Rattle.sched_text.proofs.FollowLaws.{Begun, head_stops, image_so}
use Rattle.sched_text.proofs.outcomes.image_of.Goals as goal

pub returns-in_err-header-clause-outcome : goal.returns-in_err-header-clause-outcome
returns-in_err-header-clause-outcome g c =
    let left = g.S.Source.left c.args.source.now in
    let left' = g.S.Source.left c.header.new.source in
    let p = err_from_is_err_and c.from_residual.result c.from_residual.ensures.1 in
    rw (p.1, p.2) (head_stops c.in_err-header.field-0.0 c.header.new.self.line c.header.new.self.hand left left'
    (subst (λ (r : Reader). HeaderAnswer c.header.new.self.line (text_of r.hand left) (text_of c.header.new.self.hand left') c.header.new.self.hand (Err c.in_err-header.field-0.0)) c.new-reader.ensures c.in_err-header.ensures.heads))

pub returns-clause-outcome : goal.returns-clause-outcome
returns-clause-outcome g c =
    let left = g.S.Source.left c.args.source.now in
    let mid = text_of c.header.new.self.hand (g.S.Source.left c.header.new.source) in
    let left' = g.S.Source.left c.one_image.new.source in
    let line = c.header.new.self.line in
    let h = c.in_ok-header.header in
    let hand = c.one_image.new.reader.hand in
    image_so c.one_image.result line c.args.which h hand left mid left'
    (subst (λ (r : Reader). Of (text_of r.hand left) mid (Begun line h)) c.new-reader.ensures c.in_ok-header.ensures.heads)
    (subst (λ (ts : List TaskLine). TaskImageAnswer line ts c.args.which mid (text_of hand left') hand c.one_image.result) c.items.ensures c.one_image.ensures.answer)
