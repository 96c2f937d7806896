-- Public contracts rest on this module.
-- How many units of arguments a call has.
use Rattle.std.specs.Prelude.{◌≤◌, ◌^◌, length}
use Rattle.stage_transfer.specs.Calls.{Entering, by_call, by_trigger}

-- Each unit has the number of a slot.
abbrev pub HasSlots : Entering → Type 0
HasSlots (by_call c) = length c.arguments ≤ 2 ^ 32
HasSlots by_trigger = Unit {0}
