-- What an area keeps of a control transfer unit, and the unit that an area holds (RISC-V Control Transfer Records 1.0,
-- registers mctrctl, vsctrctl, sctrdepth, sctrstatus, siselect and the entry registers).
use Rattle.std.specs.Prelude.{◌≡◌, ◌<◌, length, bit_and}
use Rattle.ctr_csrs.specs.ControlFigure.{m_mask, s_mask}
use Rattle.ctr_csrs.specs.Depths.{entries_of}
use Rattle.ctr_csrs.specs.StatusFigure.{word_of, pointer_in, frozen_in}
use Rattle.indirect_regs.specs.Unit.{UnitState, IsUnit}
use Rattle.task_switch.specs.declared.save_area.SaveArea.{SaveArea}

-- what is kept of a unit
abbrev pub area_of : UnitState → SaveArea
area_of u = record {
  m = u.m;
  vs = u.vs;
  depth = u.stack.depth;
  status = word_of (record { wrptr = u.stack.pointer; frozen = u.frozen });
  select = u.select;
  slots = u.stack.slots;
}

-- the unit that an area holds
abbrev pub unit_in : SaveArea → UnitState
unit_in a = record {
  m = a.m;
  vs = a.vs;
  frozen = frozen_in a.status;
  select = a.select;
  stack = record { depth = a.depth; slots = a.slots; pointer = pointer_in a.status a.depth };
}

-- each word is one that its register can hold, and there are as many entries as the depth says
pub record IsWhole (a : SaveArea) : Type 0 where
  pub m : bit_and a.m m_mask ≡ a.m
  pub vs : bit_and a.vs s_mask ≡ a.vs
  pub status : word_of (record { wrptr = pointer_in a.status a.depth; frozen = frozen_in a.status }) ≡ a.status
  pub select : a.select < 4096
  pub full : length a.slots ≡ entries_of a.depth

-- the unit that an area holds is the one that it keeps
abbrev pub UnitComesBack : Type 0
UnitComesBack = (u : UnitState) → IsUnit u → unit_in (area_of u) ≡ u
