use Rattle.std.proofs.Common.{sym, ◌∙◌}
use Rattle.indirect_regs.specs.Access.{access_of}
use Rattle.rv_hart.proofs.AccessLemmas.{access_lands}
use Rattle.rv_hart.proofs.hart.Hart.access.Goals as goal

pub returns-in-Ok : goal.returns-in-Ok
returns-in-Ok g c =
    let h = c.args.self.now in
    rw (c.give.ensures, c.use_register.ensures.hart)
    (access_lands h (access_of h.unit h.core.csrs h.core.mode c.args.csr c.args.op) c.args.rd c.args.word c.in-Ok.old
    (sym c.use_register.ensures.answer ∙ c.in-Ok.is)
    (c.use_register.ensures.events h.unit h.core.csrs h.core.mode c.args.csr c.args.op))
