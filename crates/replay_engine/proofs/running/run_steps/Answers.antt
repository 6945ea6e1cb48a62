use Rattle.std.proofs.Common.{◌≡◌, ◌+◌, ◌-◌, sym, ap, ◌∙◌, subst, arith}
use Rattle.std.proofs.Math.Numerals.{suc-eq-add-one}
use Rattle.rv_hart.specs.Hart.{HartState}
use Rattle.rv_hart.specs.Task.{causes}
use Rattle.replay_engine.specs.Irqs.{place_of}
use Rattle.replay_engine.specs.Tasks.{TaskState, state_on}
use Rattle.replay_engine.specs.Runs.{next_present}
use Rattle.replay_engine.proofs.Loops.{turn, made_more, cut_more, room_more}
use Rattle.replay_engine.proofs.running.run_steps.Goals as goal
use Rattle.replay_engine.specs.Parts.{StepsMade, next_due}

pub write_due-requires-clause-room : goal.write_due-requires-clause-room
write_due-requires-clause-room g c =
    let room =
    room_more c.args.hart.now c.loop.hart c.args.task.now c.loop.task c.args.context.now
    c.args.irqs.now c.loop.counter c.loop.invariant.stepped c.requires.accesses
    (omega (arith, c.requires.few, c.loop-test.true)) in
    omega (arith, room, ap (λ (a : HartState). a.accesses) c.step.ensures.hart)

pub write_due-requires-clause-due : goal.write_due-requires-clause-due
write_due-requires-clause-due g c =
    let p = c.args.context.now.period in
    let before : c.step.new.task.steps - 1 ≡ c.loop.task.steps =
    omega (arith, ap (λ (t : TaskState). t.steps) c.step.ensures.task) in
    c.loop.invariant.due ∙ ap (next_due p) (sym before)

pub returns-in-Err-clause-part : goal.returns-in-Err-clause-part
returns-in-Err-clause-part g c =
    let irqs = c.args.irqs.now in
    let bits : c.raised_at-pending.result ≡ causes irqs c.loop.task.steps =
    c.raised_at-pending.ensures.bits ∙ ap (λ (t : TaskState). causes irqs t.steps)
    c.task-in-loop.view_is in
    let one = c.step.ensures.seat irqs bits in
    let made =
    turn c.args.hart.now c.loop.hart c.step.new.hart c.write_due.new.hart c.args.task.now
    c.loop.task c.step.new.task c.args.context.now irqs c.loop.counter
    c.loop.invariant.stepped one c.step.ensures.hart c.step.ensures.task c.write_due.ensures.hart in
    cut_more g.K.Sink.gained g.met.K.Sink.gained_then c.args.sink.now c.loop.sink
    c.write_due.new.sink c.args.hart.now c.write_due.new.hart c.args.task.now c.step.new.task
    c.args.context.now irqs c.loop.counter c.args.steps (state_on c.step.new.hart c.step.new.task)
    (one ∙ ap (next_present irqs) c.loop.invariant.stepped.seat) c.loop-test.true
    made c.loop.invariant.written c.in-Err.ensures.part

pub loop-preserved : goal.loop-preserved
loop-preserved g c =
    let irqs = c.args.irqs.now in
    let s = c.args.context.now in
    let n = c.loop.counter in
    let bits : c.raised_at-pending.result ≡ causes irqs c.loop.task.steps =
    c.raised_at-pending.ensures.bits ∙ ap (λ (t : TaskState). causes irqs t.steps)
    c.task-in-loop.view_is in
    let one = c.step.ensures.seat irqs bits in
    let made =
    turn c.args.hart.now c.loop.hart c.step.new.hart c.write_due.new.hart c.args.task.now
    c.loop.task c.step.new.task s irqs n
    c.loop.invariant.stepped one c.step.ensures.hart c.step.ensures.task c.write_due.ensures.hart in
    record {
      due = c.write_due.ensures.due;
      cursor = c.raised_at-pending.ensures.place
          ∙ ap (λ (t : TaskState). place_of irqs (t.steps + 1)) c.task-in-loop.view_is
          ∙ ap (λ (t : TaskState). place_of irqs t.steps) (sym c.step.ensures.task);
      next = c.raised_at-pending.ensures.next;
      stepped =
          subst (StepsMade c.args.hart.now c.write_due.new.hart c.args.task.now c.step.new.task s
          irqs) (suc-eq-add-one n) made;
      written =
          made_more g.K.Sink.gained g.met.K.Sink.gained_then c.args.sink.now c.loop.sink
          c.write_due.new.sink s irqs n (state_on c.args.hart.now c.args.task.now)
          (state_on c.step.new.hart c.step.new.task) (one
          ∙ ap (next_present irqs) c.loop.invariant.stepped.seat)
          c.loop.invariant.written c.in-Ok.ensures.whole;
      later = omega (arith, c.loop.invariant.later, c.write_due.ensures.later);
    }
