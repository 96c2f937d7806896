use Rattle.std.proofs.Common.{take}
use Rattle.program_model.specs.Numbering.{IsParents}
use Rattle.std.specs.List.{AllZip}
use Rattle.jvm_model.specs.Linking.{class_from, names}
use Rattle.program_model.proofs.numbering.parents_of_all.Given as goal

-- the supertypes of the classes so far
abbrev pub invariant-loop-origin : goal.invariant-loop-origin
invariant-loop-origin l = AllZip (λ o p. IsParents (names l.fn.order) (class_from o) p) (take l.origin-index l.order) l.parents.items
