use Rattle.std.proofs.Common.{take}
use Rattle.std.specs.List.{AllZip}
use Rattle.program_index.specs.AboveLists.{IsSortedCopy}
use Rattle.program_index.proofs.above.sorted_lists.Given as goal

-- the lists so far have their sorted copies
abbrev pub invariant-loop-list : goal.invariant-loop-list
invariant-loop-list l = AllZip IsSortedCopy (take l.list-index l.lists) l.sorted.items
