use Rattle.std.proofs.Common.{sym}
use Rattle.guest_modes.proofs.interrupts.first_of_all.Goals as goal

pub returns-then-is_quiet : goal.returns-then-is_quiet
returns-then-is_quiet c = sym (c.if-is_quiet.ensures.none c.args.mode)
