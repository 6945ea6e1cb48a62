use Rattle.std.proofs.lemmas.Result.{err_from_is_err_and}
use Rattle.std.proofs.Common.{◌∙◌, ◌+◌, sym, subst, arith}
use Rattle.ctr_port.specs.InHand.{text_of}
use Rattle.sched_text.specs.Progress.{Sound}
use Rattle.sched_text.proofs.HeaderLaws.{came_none, came_more, came_stops, came_ends}
use Rattle.sched_text.proofs.header.read_header.Goals as goal

pub loop-line-init : goal.loop-line-init
loop-line-init g c =
    let left = g.S.Source.left c.args.source.now in
    let none = came_none c.args.window.now left in
    rw (c.requires.line, c.new-progress.ensures.start) (none, omega arith, subst Sound c.new-progress.ensures.start c.new-progress.ensures.sound, omega arith, c.requires.hand, omega arith)

pub loop-line-preserved : goal.loop-line-preserved
loop-line-preserved g c =
    let at0 = text_of c.args.window.now (g.S.Source.left c.args.source.now) in
    let at1 = text_of c.loop-line.window (g.S.Source.left c.loop-line.source) in
    let at2 = text_of c.one_line.new.window (g.S.Source.left c.one_line.new.source) in (
      came_more at0 at1 at2 c.loop-line.line c.loop-line.progress c.one_line.new.progress c.loop-line.invariant.0 c.in_ok-one_line.ensures.line,
      omega (arith, c.in_ok-one_line.ensures.count, c.loop-line.invariant.1),
      c.in_ok-one_line.ensures.sound,
      c.in_ok-one_line.ensures.few,
      c.one_line.ensures.hand,
      omega (arith, c.in_ok-one_line.ensures.cause, c.loop-line.invariant.5),
    )

pub returns-in_err-one_line-clause-heads : goal.returns-in_err-one_line-clause-heads
returns-in_err-one_line-clause-heads g c =
    let at0 = text_of c.args.window.now (g.S.Source.left c.args.source.now) in
    let at1 = text_of c.loop-line.window (g.S.Source.left c.loop-line.source) in
    let at2 = text_of c.one_line.new.window (g.S.Source.left c.one_line.new.source) in
    let p = err_from_is_err_and c.from_residual.result c.from_residual.ensures.1 in
    rw (p.1, p.2) (came_stops c.in_err-one_line.field-0.0 at0 at1 at2 c.loop-line.line c.loop-line.progress c.one_line.new.progress c.one_line.new.window c.loop-line.invariant.0 (sym c.is_done.ensures ∙ c.loop-line-test.true)
    c.in_err-one_line.ensures.line)

pub returns-clause-heads : goal.returns-clause-heads
returns-clause-heads g c =
    let at0 = text_of c.args.window.now (g.S.Source.left c.args.source.now) in
    let at1 = text_of c.loop-line.window (g.S.Source.left c.loop-line.source) in
    rw c.into_lines.ensures (came_ends at0 at1 c.loop-line.line c.loop-line.progress c.loop-line.invariant.0 (sym c.is_done.ensures ∙ c.loop-line-test.false))
