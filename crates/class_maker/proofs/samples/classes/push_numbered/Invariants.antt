use Rattle.std.proofs.Common.{◌≡◌, ◌++◌, map}
use Rattle.class_maker.specs.Sample.{below, numbered_method}
use Rattle.class_maker.proofs.samples.classes.push_numbered.Given as goal

abbrev pub invariant-loop-number : goal.invariant-loop-number
invariant-loop-number l = l.methods.items ≡ l.initial.methods.items ++ map numbered_method (below l.number)
