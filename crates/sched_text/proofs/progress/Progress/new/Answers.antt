use Rattle.sched_text.proofs.MarkLaws.{start_sound}
use Rattle.sched_text.proofs.progress.Progress.new.Goals as goal

pub returns-clause-sound : goal.returns-clause-sound
returns-clause-sound c = rw (c.new.ensures, c.new-2.ensures) start_sound
