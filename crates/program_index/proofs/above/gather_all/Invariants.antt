use Rattle.std.proofs.Common.{length, take}
use Rattle.program_index.proofs.Gathering.{IsGatheringAll}
use Rattle.program_index.proofs.above.gather_all.Given as goal

-- what is searched through the superinterfaces so far was gathered
abbrev pub invariant-loop-interface : goal.invariant-loop-interface
invariant-loop-interface l = IsGatheringAll l.parents (take l.interface-index l.interface-items) (length l.parents) l.gathered
