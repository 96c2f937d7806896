use Rattle.std.proofs.Common.{◌≡◌, take}
use Rattle.jvm_model.specs.Linking.{names}
use Rattle.program_model.proofs.numbering.names_of.Given as goal

-- the names of the classes so far
abbrev pub invariant-loop-origin : goal.invariant-loop-origin
invariant-loop-origin l = l.all.items ≡ names (take l.origin-index l.order)
