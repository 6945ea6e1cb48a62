use Rattle.std.proofs.Common.{refl, arith}
use Rattle.guest_modes.specs.declared.causes.TheConstants.{INTERRUPTS}
use Rattle.guest_modes.specs.WordLemmas.{under_part, shown_within}
use Rattle.guest_modes.proofs.numbered.write_csr.Goals as goal

pub merge-p-requires-in-260 : goal.merge-p-requires-in-260
merge-p-requires-in-260 c = (omega arith, under_part INTERRUPTS 0x2222 c.get.result refl)

pub merge-p-requires-in-324 : goal.merge-p-requires-in-324
merge-p-requires-in-324 c = (omega arith, under_part INTERRUPTS 0x2002 c.get-in-324.result refl)

pub merge-p-requires-in-516 : goal.merge-p-requires-in-516
merge-p-requires-in-516 c = (omega arith, rw c.shown_to_guest.ensures (shown_within c.args.p.now))

pub merge-p-requires-in-580 : goal.merge-p-requires-in-580
merge-p-requires-in-580 c = (omega arith, under_part INTERRUPTS 0x2004 c.shown_to_guest-in-580.result refl)
