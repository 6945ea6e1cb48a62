use Rattle.std.proofs.Common.{◌≡◌, ◌<◌, arith}
use Rattle.ctr_csrs.specs.declared.status.Status.{Status}
use Rattle.ctr_csrs.specs.RegisterLaws.{frozen_comes_back, most_entries, pointer_comes_back}
use Rattle.ctr_csrs.specs.StatusFigure.{word_of, pointer_in, frozen_in}
use Rattle.indirect_regs.specs.Unit.{UnitState, IsUnit}
use Rattle.task_switch.specs.SaveArea.{UnitComesBack}
use Rattle.task_switch.proofs.laws.area_laws.Goals as goal

pub unit_comes_back : UnitComesBack
unit_comes_back u h =
    let s : Status = record { wrptr = u.stack.pointer; frozen = u.frozen } in
    let small : u.stack.pointer < 256 = omega (arith, h.stack.within, most_entries u.stack.depth) in
    let frozen : frozen_in (word_of s) ≡ u.frozen = frozen_comes_back s small in
    let pointer : pointer_in (word_of s) u.stack.depth ≡ u.stack.pointer =
    pointer_comes_back s u.stack.depth h.stack.within in
    (λ i. record u { frozen = frozen i; stack = record u.stack { pointer = pointer i } })

pub returns : goal.returns
returns c = record { unit_comes_back = unit_comes_back }
