use Rattle.std.proofs.Common.{◌^◌, ap, arith, subst}
use Rattle.std.specs.Prelude.{slice_set}
use Rattle.ctr_port.specs.Sink.{GainsPart}
use Rattle.perf_sample.specs.Spelling.{spelling}
use Rattle.replay_engine.specs.Tasks.{TaskState}
use Rattle.replay_engine.specs.Samples.{sample_by}
use Rattle.replay_engine.proofs.Items.{got_item, on_ok, on_err}
use Rattle.replay_engine.proofs.Lifts.{room_at}
use Rattle.replay_engine.proofs.performing.sample_on_hart.Goals as goal

pub write_sample-requires : goal.write_sample-requires
write_sample-requires g c =
    omega (
      arith,
      room_at (2 ^ 61)
          c.args.tasks.now c.args.harts.now c.args.context.now.hart c.hart_mut.result.now
          c.requires.room
          c.hart_mut.ensures.hart,
    )

pub returns-clause-whole : goal.returns-clause-whole
returns-clause-whole g c = on_ok _ _ c.write_sample.result (λ written. record {
  x = c.index.result.now;
  y = c.hart_mut.result.now;
  task =
      got_item c.args.tasks.now c.tasks.inside.list.items c.args.context.now.task c.index.result.now
      c.tasks.view_is c.index.ensures c.requires.task;
  hart = c.hart_mut.ensures.hart;
  harts = ap (slice_set c.args.harts.now c.args.context.now.hart) c.write_sample.ensures.hart;
  written = subst (λ (t : TaskState). g.K.Sink.gained c.args.sink.now
      (spelling c.args.context.now.layout
      (sample_by c.args.context.now c.hart_mut.result.now.core c.hart_mut.result.now.unit.stack
      t.steps)) c.write_sample.new.sink) c.behind-tasks.view_is written;
}) c.write_sample.ensures.whole

pub returns-clause-part : goal.returns-clause-part
returns-clause-part g c = on_err _ _ c.write_sample.result (λ written. record {
  x = c.index.result.now;
  y = c.hart_mut.result.now;
  task =
      got_item c.args.tasks.now c.tasks.inside.list.items c.args.context.now.task c.index.result.now
      c.tasks.view_is c.index.ensures c.requires.task;
  hart = c.hart_mut.ensures.hart;
  harts = ap (slice_set c.args.harts.now c.args.context.now.hart) c.write_sample.ensures.hart;
  written = subst (λ
      (t : TaskState). GainsPart g.K.Sink.gained c.args.sink.now c.write_sample.new.sink
      (spelling c.args.context.now.layout
      (sample_by c.args.context.now c.hart_mut.result.now.core c.hart_mut.result.now.unit.stack
      t.steps))) c.behind-tasks.view_is written;
}) c.write_sample.ensures.part
