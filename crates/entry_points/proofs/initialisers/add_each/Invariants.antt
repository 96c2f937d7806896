use Rattle.std.proofs.Common.{take}
use Rattle.entry_points.specs.Declaring.{AddsMethods, OneDeclares}
use Rattle.entry_points.proofs.initialisers.add_each.Given as goal

-- the initialisers of the classes so far were added
abbrev pub invariant-loop-number : goal.invariant-loop-number
invariant-loop-number l = AddsMethods (OneDeclares l.program (take l.number-index l.classes)) l.fn.found.items l.found.items
