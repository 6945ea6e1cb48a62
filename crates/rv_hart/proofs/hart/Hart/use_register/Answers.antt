use Rattle.std.proofs.Common.{refl}
use Rattle.rv_hart.proofs.hart.Hart.use_register.Goals as goal

pub returns-clause-answer : goal.returns-clause-answer
returns-clause-answer g c = rw (← c.self.view_is, ← c.self-inside.view_is) c.access.ensures.answer

pub returns-clause-hart : goal.returns-clause-hart
returns-clause-hart g c = rw (← c.self.view_is, ← c.self-inside.view_is, c.access.ensures.unit, c.access.ensures.registers) refl
