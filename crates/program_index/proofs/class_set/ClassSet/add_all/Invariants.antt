use Rattle.std.proofs.Common.{◌≡◌, take}
use Rattle.program_index.specs.ClassSets.{with_classes}
use Rattle.program_index.proofs.class_set.ClassSet.add_all.Given as goal

-- the first ones of the classes are added
abbrev pub invariant-loop-class : goal.invariant-loop-class
invariant-loop-class l = l.self ≡ record { size = l.initial.self.size; items = with_classes l.initial.self.items (take l.class-index l.classes) }
