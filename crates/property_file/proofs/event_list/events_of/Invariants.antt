use Rattle.std.proofs.Common.{take}
use Rattle.std.specs.List.{AllZip}
use Rattle.property_file.specs.Reading.{IsEventTable}
use Rattle.property_file.proofs.event_list.events_of.Given as goal

-- the events of the values so far
abbrev pub invariant-loop-value : goal.invariant-loop-value
invariant-loop-value l = AllZip (IsEventTable l.states l.error) (take l.value-index l.values) l.events.items
