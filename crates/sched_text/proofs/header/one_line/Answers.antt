use Rattle.std.proofs.Common.{◌∙◌, ap, subst, refl, Err}
use Rattle.ctr_port.specs.InHand.{text_of}
use Rattle.sched_text.specs.InHand.{HasLine}
use Rattle.sched_text.specs.Progress.{step, Stepped}
use Rattle.sched_text.proofs.CommandLaws.{line_passed}
use Rattle.sched_text.proofs.HeaderLaws.{long_line, line_steps, line_refused}
use Rattle.sched_text.proofs.header.one_line.Goals as goal

pub returns-in-Long-clause-line : goal.returns-in-Long-clause-line
returns-in-Long-clause-line g c =
    let left = g.S.Source.left c.args.source.now in
    let left' = g.S.Source.left c.read_line.new.source in
    (refl, long_line c.args.window.now c.read_line.new.window left left' c.args.line c.args.progress.now c.in-Err.ensures.same (subst (HasLine c.read_line.new.window left') (c.in-Err.is ∙ ap Err c.in-Long.is) c.read_line.ensures.line))

pub returns-in-Ok-stepped-clause-line : goal.returns-in-Ok-stepped-clause-line
returns-in-Ok-stepped-clause-line g c =
    let left = g.S.Source.left c.args.source.now in
    let left' = g.S.Source.left c.read_line.new.source in
    let front = c.split_at.result.0.now in
    let given = line_passed c.args.window.now c.read_line.new.window c.pass.new.self c.bytes.result.now front c.in-Ok.count left left' c.in-Ok.ensures.same c.in-Ok.ensures.line.1 c.bytes.ensures.bytes c.split_at.ensures.front c.pass.ensures in
    line_steps (text_of c.args.window.now left) (text_of c.pass.new.self left') c.args.line c.args.progress.now c.step-stepped.new.self front given c.in-Ok-stepped.ensures.step

pub returns-in-Refused-clause-line : goal.returns-in-Refused-clause-line
returns-in-Refused-clause-line g c =
    let left = g.S.Source.left c.args.source.now in
    let left' = g.S.Source.left c.read_line.new.source in
    let front = c.split_at.result.0.now in
    let given = line_passed c.args.window.now c.read_line.new.window c.pass.new.self c.bytes.result.now front c.in-Ok.count left left' c.in-Ok.ensures.same c.in-Ok.ensures.line.1 c.bytes.ensures.bytes c.split_at.ensures.front c.pass.ensures in (
      refl,
      line_refused (text_of c.args.window.now left) (text_of c.pass.new.self left') c.args.line c.args.progress.now front c.in-Refused.reason given
          (subst (Stepped (step c.args.progress.now front) c.step-stepped.new.self) (c.in-Err-stepped.is ∙ ap Err c.in-Refused.is) c.step-stepped.ensures.step),
    )
