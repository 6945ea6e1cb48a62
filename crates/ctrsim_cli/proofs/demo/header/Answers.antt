use Rattle.std.proofs.Common.{◌≡◌, List, [], ◌∷◌, ◌++◌, sym, ap, ◌∙◌, arith}
use Rattle.sched_text.specs.declared.schedule.IrqLine.{IrqLine}
use Rattle.sched_text.specs.declared.schedule.TaskLine.{TaskLine}
use Rattle.ctrsim_cli.specs.Demo.{demo_lines}
use Rattle.ctrsim_cli.proofs.DemoLaws.{lines_more}
use Rattle.ctrsim_cli.proofs.demo.header.Goals as goal

pub loop-number-preserved : goal.loop-number-preserved
loop-number-preserved c =
    let n = c.loop-number.number in
    record {
      most = omega (arith, c.loop-number-test.true);
      are = c.in_ok-push.ensures.ok ∙ ap (λ (ls : List TaskLine). ls ++ c.task_line.result ∷ []) c.loop-number.invariant.are
          ∙ ap (λ (l : TaskLine). demo_lines n ++ l ∷ []) c.task_line.ensures ∙ sym (lines_more n);
    }

pub returns : goal.returns
returns c =
    let all : c.loop-number.number ≡ 8 = omega (arith, c.loop-number.invariant.most, c.loop-number-test.false) in
    ap (λ (ls : List TaskLine). record { harts = 4; layout = 2051; branch = 0; tasks = ls; irqs = c.new.result }) (c.loop-number.invariant.are ∙ ap demo_lines all)
    ∙ ap (λ (is : List IrqLine). record { harts = 4; layout = 2051; branch = 0; tasks = demo_lines 8; irqs = is }) c.new.ensures
