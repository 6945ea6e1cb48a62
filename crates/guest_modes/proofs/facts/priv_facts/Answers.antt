use Rattle.guest_modes.specs.Facts.{IsKept, kept}
use Rattle.guest_modes.specs.RowFacts.{Each, done, ◌⊕◌, all_of, full}
use Rattle.guest_modes.proofs.facts.priv_facts.Goals as goal

pub returns : goal.returns
returns c =
    let p = c.args.p.now in
    let w = c.masked_facts.ensures in
    let v = c.size_facts.ensures in
    let g = c.guest_size_facts.ensures in
    let words : Each IsKept (kept p) =
    w.medeleg_is
    ⊕ w.mideleg_is
    ⊕ w.mie_is
    ⊕ w.mip_is
    ⊕ w.mtvec_is
    ⊕ full p.mscratch v.mscratch_is
    ⊕ w.mepc_is
    ⊕ full p.mcause v.mcause_is
    ⊕ full p.mtval v.mtval_is
    ⊕ full p.mtinst v.mtinst_is
    ⊕ full p.mtval2 v.mtval2_is
    ⊕ w.stvec_is
    ⊕ full p.sscratch v.sscratch_is
    ⊕ w.sepc_is
    ⊕ full p.scause v.scause_is
    ⊕ full p.stval v.stval_is
    ⊕ w.hstatus_is
    ⊕ w.hedeleg_is
    ⊕ w.hideleg_is
    ⊕ full p.htval g.htval_is
    ⊕ full p.htinst g.htinst_is
    ⊕ w.vsstatus_is
    ⊕ w.vstvec_is
    ⊕ full p.vsscratch g.vsscratch_is
    ⊕ w.vsepc_is
    ⊕ full p.vscause g.vscause_is
    ⊕ full p.vstval g.vstval_is
    ⊕ w.vsiselect_is
    ⊕ done in
    record { status = w.mstatus_is; words = all_of IsKept (kept p) words }
