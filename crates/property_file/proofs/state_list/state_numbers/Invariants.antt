use Rattle.std.proofs.Common.{take}
use Rattle.std.specs.List.{AllZip}
use Rattle.property_file.specs.Reading.{IsStateText}
use Rattle.property_file.proofs.state_list.state_numbers.Given as goal

-- the numbers of the values so far
abbrev pub invariant-loop-value : goal.invariant-loop-value
invariant-loop-value l = AllZip (IsStateText l.states) (take l.value-index l.values) l.numbers.items
