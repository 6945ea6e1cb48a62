use Rattle.std.proofs.lemmas.Result.{err_from_is_err_and}
use Rattle.std.proofs.Common.{subst, sym, ◌∙◌, Err, List, [], ℕ}
use Rattle.ctr_port.specs.InHand.{text_of, Of}
use Rattle.sched_text.specs.Header.{HeaderAnswer}
use Rattle.sched_text.specs.Reader.{Reader}
use Rattle.sched_text.specs.declared.schedule.TaskLine.{TaskLine}
use Rattle.sched_text.specs.Outcomes.{Opened, total, ImagesAnswer, IsBehind}
use Rattle.sched_text.proofs.FollowLaws.{Begun, head_stops, images_stop, opened}
use Rattle.sched_text.proofs.outcomes.read_to_commands.Goals as goal

pub returns-in_err-header-clause-opens : goal.returns-in_err-header-clause-opens
returns-in_err-header-clause-opens g c =
    let left = g.S.Source.left c.args.source.now in
    let left' = g.S.Source.left c.header.new.source in
    let p = err_from_is_err_and c.from_residual.result c.from_residual.ensures.1 in
    rw (p.1, p.2) (head_stops c.in_err-header.field-0.0 c.header.new.self.line c.header.new.self.hand left left'
    (subst (λ (r : Reader). HeaderAnswer c.header.new.self.line (text_of r.hand left) (text_of c.header.new.self.hand left') c.header.new.self.hand (Err c.in_err-header.field-0.0)) c.new-reader.ensures c.in_err-header.ensures.heads))

pub returns-in_err-images-clause-opens : goal.returns-in_err-images-clause-opens
returns-in_err-images-clause-opens g c =
    let left = g.S.Source.left c.args.source.now in
    let mid = text_of c.header.new.self.hand (g.S.Source.left c.header.new.source) in
    let left' = g.S.Source.left c.images.new.source in
    let line = c.header.new.self.line in
    let h = c.in_ok-header.header in
    let hand = c.images.new.reader.hand in
    let p = err_from_is_err_and c.from_residual-in_err-images.result c.from_residual-in_err-images.ensures.1 in
    rw (p.1, p.2) (images_stop c.in_err-images.field-0.0 line h hand left mid left'
    (subst (λ (r : Reader). Of (text_of r.hand left) mid (Begun line h)) c.new-reader.ensures c.in_ok-header.ensures.heads)
    (subst (λ (ts : List TaskLine). ImagesAnswer line (total ts) mid (text_of hand left') hand (Err c.in_err-images.field-0.0)) c.items.ensures c.in_err-images.ensures.passed))

pub returns-clause-opens : goal.returns-clause-opens
returns-clause-opens g c =
    let left = g.S.Source.left c.args.source.now in
    let first = text_of c.header.new.self.hand (g.S.Source.left c.header.new.source) in
    let mid = text_of c.images.new.reader.hand (g.S.Source.left c.images.new.source) in
    let line = c.header.new.self.line in
    let h = c.in_ok-header.header in
    let same = c.in_ok-images.ensures.same in
    let behind : Of (text_of [] left) mid (Opened line h) =
    opened line h (text_of [] left) first mid
    (subst (λ (r : Reader). Of (text_of r.hand left) first (Begun line h)) c.new-reader.ensures c.in_ok-header.ensures.heads)
    (subst (λ (ts : List TaskLine). Of first mid (IsBehind (total ts))) c.items.ensures c.in_ok-images.ensures.passed) in
    record {
      header = h;
      free = c.in_ok-images.ensures.refused;
      goes_on = same.2 ∙ c.in_ok-header.ensures.none.1;
      none = same.1 ∙ c.in_ok-header.ensures.none.0;
      opened = subst (λ (n : ℕ). Of (text_of [] left) mid (Opened n h)) (sym same.0) behind;
    }
