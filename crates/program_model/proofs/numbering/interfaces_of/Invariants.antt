use Rattle.std.proofs.Common.{◌≡◌, ◌<◌, length, map, take, All}
use Rattle.jvm_model.specs.Linking.{class_from}
use Rattle.program_model.specs.Numbering.{name_in}
use Rattle.program_model.proofs.numbering.interfaces_of.Given as goal

-- the numbers of the superinterfaces so far
abbrev pub invariant-loop-place : goal.invariant-loop-place
invariant-loop-place l =
    (map (name_in l.all) l.numbers.items ≡ take l.place (class_from l.fn.origin).interfaces) × All (λ n. n < length l.all) l.numbers.items
