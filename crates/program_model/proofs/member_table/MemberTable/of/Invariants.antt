use Rattle.std.proofs.Common.{take}
use Rattle.program_model.specs.MemberLists.{IsTable}
use Rattle.program_model.proofs.member_table.MemberTable.of.Given as goal

-- the members of the first classes are there
abbrev pub invariant-loop-class : goal.invariant-loop-class
invariant-loop-class g l = IsTable g.K.MemberKind.members (take l.class l.order) l.table
