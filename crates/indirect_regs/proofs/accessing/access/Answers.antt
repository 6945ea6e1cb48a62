use Rattle.std.proofs.Common.{Bool, sym, ◌∙◌, ap}
use Rattle.guest_modes.specs.Gate.{gate_answer}
use Rattle.indirect_regs.specs.Access.{is_write}
use Rattle.indirect_regs.specs.Table.{row_of}
use Rattle.indirect_regs.proofs.AccessLemmas.{used_keeps, used_is_illegal, used_is_not_virtual, virtual_by_gate, illegal_by_select}
use Rattle.indirect_regs.proofs.accessing.access.Goals as goal

pub returns-in-Ok-clause-refused : goal.returns-in-Ok-clause-refused
returns-in-Ok-clause-refused g c =
    let row = row_of c.in-Ok.number in
    rw (c.use_register.ensures.answer, c.use_register.ensures.unit, c.use_register.ensures.registers)
    (used_keeps row c.args.unit.now c.args.p.now c.args.op (row.reads c.args.unit.now c.args.p.now))

pub returns-in-Ok-clause-is_virtual : goal.returns-in-Ok-clause-is_virtual
returns-in-Ok-clause-is_virtual g c =
    let row = row_of c.in-Ok.number in
    let never = used_is_not_virtual row c.args.unit.now c.args.p.now c.args.op (row.reads c.args.unit.now c.args.p.now) in
    virtual_by_gate (gate_answer c.args.mode c.args.csr (is_write c.args.op)) c.use_register.result c.in-Ok.number
    (sym (c.gate.ensures.reached ∙ ap (λ (w : Bool). gate_answer c.args.mode c.args.csr w) c.writes.ensures) ∙ c.in-Ok.is)
    (λ e. never (sym c.use_register.ensures.answer ∙ e))

pub returns-in-Ok-clause-is_illegal : goal.returns-in-Ok-clause-is_illegal
returns-in-Ok-clause-is_illegal g c =
    let row = row_of c.in-Ok.number in
    let iff = used_is_illegal row c.args.unit.now c.args.p.now c.args.op (row.reads c.args.unit.now c.args.p.now) in
    illegal_by_select c.args.unit.now c.args.p.now (gate_answer c.args.mode c.args.csr (is_write c.args.op)) c.use_register.result c.in-Ok.number
    (sym (c.gate.ensures.reached ∙ ap (λ (w : Bool). gate_answer c.args.mode c.args.csr w) c.writes.ensures) ∙ c.in-Ok.is)
    (λ e. iff.0 (sym c.use_register.ensures.answer ∙ e), λ e. c.use_register.ensures.answer ∙ iff.1 e)
