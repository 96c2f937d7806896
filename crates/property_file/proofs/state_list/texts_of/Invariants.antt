use Rattle.std.proofs.Common.{take}
use Rattle.std.specs.List.{AllZip}
use Rattle.property_file.specs.Reading.{IsText}
use Rattle.property_file.proofs.state_list.texts_of.Given as goal

-- the texts of the values so far
abbrev pub invariant-loop-value : goal.invariant-loop-value
invariant-loop-value l = AllZip IsText (take l.value-index l.values) l.texts.items
