-- The control transfer unit of a hart: the record buffer, the two control registers, FROZEN, and siselect (RISC-V
-- Control Transfer Records 1.0).
use Rattle.std.specs.Prelude.{◌≡◌, ℕ, ◌<◌, Bool, false, Option, Some, None, bit_and}
use Rattle.ctr_csrs.specs.declared.depth.Depth.{Depth}
use Rattle.ctr_csrs.specs.ControlFigure.{m_mask, s_mask}
use Rattle.ctr_buffer.specs.declared.event.Event.{Event}
use Rattle.ctr_buffer.specs.declared.event.Event.TheVariants.{Clear}
use Rattle.ctr_buffer.specs.Stack.{Stack, IsStack, empty}
use Rattle.ctr_buffer.specs.History.{after, CanTake}

-- mctrctl, vsctrctl, FROZEN of sctrstatus, siselect, and what the record buffer holds
pub record UnitState : Type 0 where
  pub m : ℕ
  pub vs : ℕ
  pub frozen : Bool
  pub select : ℕ
  pub stack : Stack

-- the controls and the select are what their registers can hold
pub record HasControls (u : UnitState) : Type 0 where
  pub m : bit_and u.m m_mask ≡ u.m
  pub vs : bit_and u.vs s_mask ≡ u.vs
  pub select : u.select < 4096

-- what every unit keeps to
pub record IsUnit (u : UnitState) : Type 0 where
  pub controls : HasControls u
  pub stack : IsStack u.stack

-- a unit of this depth that nothing was recorded in or written to
abbrev pub fresh_unit : Depth → UnitState
fresh_unit depth = record { m = 0; vs = 0; frozen = false; select = 0; stack = empty depth }

-- the unit after an event of its record buffer
abbrev pub after_event : UnitState → Event → UnitState
after_event u e = record u { stack = after u.stack e }

-- and after an event, if there is one
abbrev pub after_any : Stack → Option Event → Stack
after_any s None = s
after_any s (Some e) = after s e

abbrev pub CanTakeAny : Stack → Option Event → Type 0
CanTakeAny s None = Unit {0}
CanTakeAny s (Some e) = CanTake s e

-- SCTRCLR
abbrev pub cleared_unit : UnitState → UnitState
cleared_unit u = after_event u Clear
