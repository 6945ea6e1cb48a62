-- How the code asks: under return-stack emulation by the transfer type alone, once both modes are
-- enabled (RISC-V Control Transfer Records 1.0, "RAS Emulation Mode").
use Rattle.ctr_rules.specs.declared.transfer.Act.{Act}
use Rattle.ctr_rules.specs.declared.transfer.Act.TheVariants as acts
use Rattle.ctr_rules.specs.declared.transfer.Record.{Record}
use Rattle.ctr_rules.specs.declared.transfer.Transfer.{Transfer}
use Rattle.ctr_rules.specs.RowTable.{record_of}
use Rattle.xfer_class.specs.declared.types.XferType.{XferType}
use Rattle.xfer_class.specs.declared.types.XferType.TheVariants as kinds

abbrev pub emulated_by : XferType → Record → Act
emulated_by kinds.IndirectCall whole = acts.Push whole
emulated_by kinds.DirectCall whole = acts.Push whole
emulated_by kinds.Return whole = acts.Pop
emulated_by kinds.Swap whole = acts.Swap whole
emulated_by _ whole = acts.Nothing

abbrev pub emulated_act : Transfer → Act
emulated_act t = emulated_by t.kind (record_of t t.source t.target)
