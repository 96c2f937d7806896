use Rattle.std.proofs.Common.{◌≡◌, ◌++◌}
use Rattle.std.specs.List.{flat_map}
use Rattle.class_maker.specs.Sample.{below, entries_of_method}
use Rattle.class_maker.proofs.samples.pool.push_entries_of_methods.Given as goal

abbrev pub invariant-loop-number : goal.invariant-loop-number
invariant-loop-number l = l.entries.items ≡ l.initial.entries.items ++ flat_map entries_of_method (below l.number)
