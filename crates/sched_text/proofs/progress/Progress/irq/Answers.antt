use Rattle.std.proofs.Common.{◌<◌, ◌∙◌, length, sym}
use Rattle.sched_text.proofs.MarkLaws.{irq_sound}
use Rattle.sched_text.specs.declared.schedule.IrqLine.{IrqLine}
use Rattle.sched_text.proofs.progress.Progress.irq.Goals as goal

pub returns-clause-sound : goal.returns-clause-sound
returns-clause-sound c =
    let words = c.in_ok-words.words in
    let there : words.task < length c.args.self.now.tasks = rw c.items.ensures at c.if-words-items.false in
    let irq : IrqLine = record { task = words.task; step = words.step; cause = words.cause } in
    irq_sound c.args.self.now c.push.new.self irq c.requires.sound c.in_ok-push.ensures c.requires.some
    (record { task = there; step = c.in_ok-words.ensures.range.0; cause = c.in_ok-words.ensures.range.1 })
    (sym c.refusal.ensures.refusal ∙ c.in_default.is)
