-- The registers of a hart that has executed nothing (RISC-V Privileged Architecture, "Reset").
use Rattle.guest_modes.specs.declared.registers.Priv.{Priv}

abbrev pub fresh_registers : Priv
fresh_registers = record {
  mstatus = 0;
  medeleg = 0;
  mideleg = 0;
  mie = 0;
  mip = 0;
  mtvec = 0;
  mscratch = 0;
  mepc = 0;
  mcause = 0;
  mtval = 0;
  mtinst = 0;
  mtval2 = 0;
  stvec = 0;
  sscratch = 0;
  sepc = 0;
  scause = 0;
  stval = 0;
  hstatus = 0;
  hedeleg = 0;
  hideleg = 0;
  htval = 0;
  htinst = 0;
  vsstatus = 0;
  vstvec = 0;
  vsscratch = 0;
  vsepc = 0;
  vscause = 0;
  vstval = 0;
  vsiselect = 0;
}
